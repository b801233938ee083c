-- What was written is the three parts.
use Rattle.std.proofs.Common.{◌++◌, codes}
use Rattle.std.specs.Fmt.{decimal}
use Rattle.std.proofs.KnownBytes.{Appends-trans}
use Rattle.l4map_cli.proofs.Streams.{on_ok}
use Rattle.l4map_cli.proofs.error.tell_record.Goals as goal

pub returns-clause-line : goal.returns-clause-line
returns-clause-line g c =
    let contents = g.W.Sink.contents in
    let digits = rw (c.as_bytes.ensures.value, c.format.ensures.text) at c.in_ok-write_all-2.ensures.bytes in
    let two = Appends-trans (contents c.args.writer.now) (contents c.write_all.new.self) (contents c.write_all-2.new.self) (codes "l4map: record ") (decimal c.args.number) c.in_ok-write_all.ensures.bytes digits in
    on_ok c.write_all-3.result _ _ (λ last. Appends-trans (contents c.args.writer.now) (contents c.write_all-2.new.self) (contents c.write_all-3.new.self) (codes "l4map: record " ++ decimal c.args.number) c.args.what.now two last) c.write_all-3.ensures.bytes
