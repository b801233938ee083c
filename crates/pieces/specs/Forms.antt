-- What the parts of a strip, and what a piece found out, are as contracts see them.
use Rattle.std.specs.Prelude.{ℕ, List, Option, []}
use Rattle.std.specs.declared.vec.Vec.{Vec}
use Rattle.std.specs.declared.alloc.Global.{Global}
use Rattle.fpage.specs.Rights.{no_rights}
use Rattle.fpage.specs.declared.rights.Rights.{Rights}
use Rattle.space.specs.declared.slice.Slice.{Slice}
use Rattle.pieces.specs.Contents.{StripContent}
use Rattle.pieces.specs.Masks.{masks_of}
use Rattle.pieces.specs.Values.{Value}
use Rattle.pieces.specs.declared.done.Found.{Found}
use Rattle.pieces.specs.declared.done.Found.TheVariants.{Nodes, Answers}
use Rattle.pieces.specs.declared.masks.Form.{Form}
use Rattle.pieces.specs.declared.masks.Form.TheVariants.{Run, Each}

-- the nodes of a part, masks and indexes
abbrev pub content_of : Slice → List Rights → Vec ℕ Global → Option ℕ → StripContent
content_of slice masks indexes fold = record { nodes = slice.nodes.items; masks = masks; indexes = indexes.items; fold = fold }

-- masks, in either form
abbrev pub masks_in : Form → List Rights
masks_in (Run nodes revoked spared) = masks_of spared revoked nodes.value
masks_in (Each list) = list.value.items

-- what a piece found out, in either form
abbrev pub value_in : Found → Value
value_in (Nodes kept status) = record { kept = kept.nodes.items; status = status; answers = [] }
value_in (Answers answers) = record { kept = []; status = no_rights; answers = answers.items }
