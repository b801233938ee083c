-- What becomes of a page of an item.
use Rattle.std.proofs.Common.{◌≡◌, List, Option, Some, None, refl}
use Rattle.fpage.specs.declared.item.ItemKind.{ItemKind}
use Rattle.fpage.specs.declared.rights.Rights.{Rights}
use Rattle.model.specs.Definitions.Holdings.{Held, Holdings, at}
use Rattle.model.specs.Definitions.Items.{Pair, fate_of, fate}

-- an item's outcome goes by its kind and rights
pub same_fate : (h : Holdings) (kind : ItemKind) (rights : Rights) (ps qs : List Pair) (e : Pair) → fate h (record { kind = kind; rights = rights; pairs = ps }) e ≡ fate h (record { kind = kind; rights = rights; pairs = qs }) e
same_fate h kind rights ps qs e = by (at h e.0)
  where
    by : (m : Option Held) → fate_of h (record { kind = kind; rights = rights; pairs = ps }) e m ≡ fate_of h (record { kind = kind; rights = rights; pairs = qs }) e m
    by None = refl
    by (Some m) = refl
