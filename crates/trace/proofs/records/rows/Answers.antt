-- What the reader was built with.
use Rattle.std.proofs.Common.{◌∙◌}
use Rattle.trace.proofs.records.rows.Goals as goal

pub returns : goal.returns
returns c =
    let made = c.from_reader.ensures in
    let built = c.flexible.ensures in
    let named = c.has_headers.ensures in
    record {
      trim = rw (built, named) at made.trim ∙ c.new.ensures.trim;
      config = rw (built, named) at made.config ∙ c.new.ensures.config;
      has_headers = rw (built, named) at made.has_headers;
      headers = made.headers;
      state = made.state;
      works = made.fresh;
      source = made.source;
    }
