-- What was answered is the trace that was read, whoever works its calls, and the audit follows.
use Rattle.std.proofs.Common.{◌∙◌}
use Rattle.replay.proofs.Runs.{closing_whole, closing_stops, replayed, ended, nothing, streams}
use Rattle.replay.proofs.replay.run.Goals as goal

pub returns-then-options-clause-replayed : goal.returns-then-options-clause-replayed
returns-then-options-clause-replayed g c =
    let known = g.R.Source.remaining c.args.reader.now in
    let contents = g.W.Sink.contents in
    let failed = g.W.Sink.failed in
    let bytes = c.in_ok-bytes.bytes in
    let old = contents c.args.writer.now in
    let was = failed c.args.writer.now in
    let new = contents c.write_closing.new.writer in
    let is = failed c.write_closing.new.writer in
    replayed known bytes old new c.write_closing.result c.in_ok-bytes.ensures.bytes (closing_whole c.in_ok-replayed.ensures.ok new c.write_closing.result c.write_closing.ensures.ok c.write_closing.ensures.written)

pub returns-then-options-clause-ended : goal.returns-then-options-clause-ended
returns-then-options-clause-ended g c =
    let known = g.R.Source.remaining c.args.reader.now in
    let contents = g.W.Sink.contents in
    let failed = g.W.Sink.failed in
    let bytes = c.in_ok-bytes.bytes in
    let old = contents c.args.writer.now in
    let was = failed c.args.writer.now in
    let new = contents c.write_closing.new.writer in
    let is = failed c.write_closing.new.writer in
    ended known bytes old new was is c.write_closing.result c.in_ok-bytes.ensures.bytes (closing_stops c.in_ok-replayed.ensures.ok new was (failed c.replay_trace.new.writer) is c.write_closing.result c.in_ok-replayed.ensures.works c.write_closing.ensures.err)

pub returns-then-options-clause-nothing : goal.returns-then-options-clause-nothing
returns-then-options-clause-nothing g c =
    let known = g.R.Source.remaining c.args.reader.now in
    let contents = g.W.Sink.contents in
    let failed = g.W.Sink.failed in
    let bytes = c.in_ok-bytes.bytes in
    let old = contents c.args.writer.now in
    let was = failed c.args.writer.now in
    let new = contents c.write_closing.new.writer in
    let is = failed c.write_closing.new.writer in
    nothing bytes old new was is c.write_closing.result (closing_stops c.in_ok-replayed.ensures.ok new was (failed c.replay_trace.new.writer) is c.write_closing.result c.in_ok-replayed.ensures.works c.write_closing.ensures.err)

pub returns-then-options-clause-streams : goal.returns-then-options-clause-streams
returns-then-options-clause-streams g c =
    let known = g.R.Source.remaining c.args.reader.now in
    let contents = g.W.Sink.contents in
    let failed = g.W.Sink.failed in
    let bytes = c.in_ok-bytes.bytes in
    let old = contents c.args.writer.now in
    let was = failed c.args.writer.now in
    let new = contents c.write_closing.new.writer in
    let is = failed c.write_closing.new.writer in
    streams bytes old new (g.R.Source.failed c.read_input.new.reader) was is c.write_closing.result (c.in_ok-bytes.ensures.ok ∙ c.requires.reader) c.requires.writer (closing_stops c.in_ok-replayed.ensures.ok new was (failed c.replay_trace.new.writer) is c.write_closing.result c.in_ok-replayed.ensures.works c.write_closing.ensures.err)

pub returns-clause-replayed : goal.returns-clause-replayed
returns-clause-replayed g c =
    let known = g.R.Source.remaining c.args.reader.now in
    let contents = g.W.Sink.contents in
    let failed = g.W.Sink.failed in
    let bytes = c.in_ok-bytes.bytes in
    let old = contents c.args.writer.now in
    let was = failed c.args.writer.now in
    let new = contents c.write_closing-2.new.writer in
    let is = failed c.write_closing-2.new.writer in
    replayed known bytes old new c.write_closing-2.result c.in_ok-bytes.ensures.bytes (closing_whole c.in_ok-replayed-2.ensures.ok new c.write_closing-2.result c.write_closing-2.ensures.ok c.write_closing-2.ensures.written)

pub returns-clause-ended : goal.returns-clause-ended
returns-clause-ended g c =
    let known = g.R.Source.remaining c.args.reader.now in
    let contents = g.W.Sink.contents in
    let failed = g.W.Sink.failed in
    let bytes = c.in_ok-bytes.bytes in
    let old = contents c.args.writer.now in
    let was = failed c.args.writer.now in
    let new = contents c.write_closing-2.new.writer in
    let is = failed c.write_closing-2.new.writer in
    ended known bytes old new was is c.write_closing-2.result c.in_ok-bytes.ensures.bytes (closing_stops c.in_ok-replayed-2.ensures.ok new was (failed c.replay_trace-2.new.writer) is c.write_closing-2.result c.in_ok-replayed-2.ensures.works c.write_closing-2.ensures.err)

pub returns-clause-nothing : goal.returns-clause-nothing
returns-clause-nothing g c =
    let known = g.R.Source.remaining c.args.reader.now in
    let contents = g.W.Sink.contents in
    let failed = g.W.Sink.failed in
    let bytes = c.in_ok-bytes.bytes in
    let old = contents c.args.writer.now in
    let was = failed c.args.writer.now in
    let new = contents c.write_closing-2.new.writer in
    let is = failed c.write_closing-2.new.writer in
    nothing bytes old new was is c.write_closing-2.result (closing_stops c.in_ok-replayed-2.ensures.ok new was (failed c.replay_trace-2.new.writer) is c.write_closing-2.result c.in_ok-replayed-2.ensures.works c.write_closing-2.ensures.err)

pub returns-clause-streams : goal.returns-clause-streams
returns-clause-streams g c =
    let known = g.R.Source.remaining c.args.reader.now in
    let contents = g.W.Sink.contents in
    let failed = g.W.Sink.failed in
    let bytes = c.in_ok-bytes.bytes in
    let old = contents c.args.writer.now in
    let was = failed c.args.writer.now in
    let new = contents c.write_closing-2.new.writer in
    let is = failed c.write_closing-2.new.writer in
    streams bytes old new (g.R.Source.failed c.read_input.new.reader) was is c.write_closing-2.result (c.in_ok-bytes.ensures.ok ∙ c.requires.reader) c.requires.writer (closing_stops c.in_ok-replayed-2.ensures.ok new was (failed c.replay_trace-2.new.writer) is c.write_closing-2.result c.in_ok-replayed-2.ensures.works c.write_closing-2.ensures.err)
