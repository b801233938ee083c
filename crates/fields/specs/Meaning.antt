-- What the types of the crate stand for in the definitions.
use Rattle.model.specs.Definitions.Records.{Version, one, two}
use Rattle.fields.specs.declared.version.Version.{Version as TheVersion}
use Rattle.fields.specs.declared.version.Version.TheVariants.{One, Two}

-- the version that one of the program is
abbrev pub version_of : TheVersion → Version
version_of One = one
version_of Two = two
