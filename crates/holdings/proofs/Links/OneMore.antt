-- Links of transfers, one after another, of which some are put into trees.
use Rattle.std.proofs.Common.{◌≡◌, ◌<◌, ◌+◌, ◌++◌, ◌∷◌, [], ℕ, Bool, List, length, get_or, true, false, sym, ap, ◌∙◌, subst, take, drop, if◌then◌else◌, Option, Some, None}
use Rattle.std.specs.Prelude.{slice_set}
use Rattle.std.proofs.lemmas.List.{append-nil, take_more, drop_more, take-append-drop}
use Rattle.space.specs.declared.place.Entry.{Entry}
use Rattle.space.specs.declared.shards.Shards.{Shards}
use Rattle.space.specs.Shards.{entry_at}
use Rattle.maptree.specs.Origins.{Shape}
use Rattle.holdings.specs.declared.link.Link.{Link}
use Rattle.holdings.specs.declared.transfer.Transfer.{Transfer}
use Rattle.holdings.specs.Inner.Derivation.{stands_in, IsDerived}
use Rattle.holdings.specs.Inner.Held.{links_in}
use Rattle.holdings.specs.Inner.Links.{AreLinkable, AreLinked, link_of, links_of}
use Rattle.holdings.proofs.Contents.Holders.{links_read}
use Rattle.holdings.proofs.Links.LinkedTrees.{next_frame, next_source, next_target, next_linked}
use Rattle.holdings.proofs.Links.NewMappings.{tree_set}

-- the links of the tree that is read
pub read : (trees : List Shape) (frame : ℕ) (t : Shape) → frame < length trees → t ≡ get_or trees frame t → links_in trees frame ≡ (get_or trees frame t).links
read trees frame t within is = links_read trees frame t within is ∙ ap (λ (s : Shape). s.links) is

-- the new mappings of transfers, and of others behind them
both : (s : Shards) (ts us : List Transfer) → links_of s (ts ++ us) ≡ links_of s ts ++ links_of s us
both s [] us = refl'
  where
    refl' : links_of s us ≡ links_of s us
    refl' = λ i. links_of s us
both s (t ∷ ts) us = by (entry_at s t.source) (both s ts us)
  where
    goes : (b : Bool) (l : Link) (ls ms ns : List Link) → ls ≡ ms ++ ns → (if b then ls else l ∷ ls) ≡ (if b then ms else l ∷ ms) ++ ns
    goes true l ls ms ns rest = rest
    goes false l ls ms ns rest = ap (λ ks. l ∷ ks) rest

    by : (e : Option Entry) → links_of s (ts ++ us) ≡ links_of s ts ++ links_of s us → link_of t e (links_of s (ts ++ us)) ≡ link_of t e (links_of s ts) ++ links_of s us
    by None rest = rest
    by (Some e) rest = goes t.extends _ _ (links_of s ts) (links_of s us) rest

-- some of the links, chosen one by one
module _ (some : List Link → List Link) (some_append : (ls ms : List Link) → some (ls ++ ms) ≡ some ls ++ some ms) (s : Shards) (ts : List Transfer) (i : ℕ) (d : Transfer) (less : i < length ts) where
  abbrev before : List Link
  before = some (links_of s (take i ts))

  abbrev after : List Link
  after = some (links_of s (drop (i + 1) ts))

  abbrev here : List Link
  here = some (links_of s (get_or ts i d ∷ []))

  next : some (links_of s (take (i + 1) ts)) ≡ before ++ here
  next =
      ap (λ us. some (links_of s us)) (take_more ts i d less) ∙ ap some (both s (take i ts) (get_or ts i d ∷ []))
      ∙ some_append (links_of s (take i ts)) (links_of s (get_or ts i d ∷ []))

  all : some (links_of s ts) ≡ before ++ (here ++ after)
  all =
      ap (λ us. some (links_of s us)) (sym (take-append-drop i ts)) ∙ ap some (both s (take i ts) (drop i ts))
      ∙ some_append (links_of s (take i ts)) (links_of s (drop i ts))
      ∙ ap (λ us. before ++ some (links_of s us)) (drop_more ts i d less)
      ∙ ap (λ ls. before ++ some ls) (both s (get_or ts i d ∷ []) (drop (i + 1) ts))
      ∙ ap (λ ls. before ++ ls) (some_append (links_of s (get_or ts i d ∷ [])) (links_of s (drop (i + 1) ts)))

  module _ (old : List Shape) (can : AreLinkable old (some (links_of s ts))) (mid : List Shape) (linked : AreLinked before old mid) where
    module _ (l : Link) (is : here ≡ l ∷ []) where
      can_here : AreLinkable old (before ++ l ∷ after)
      can_here = subst (AreLinkable old) (all ∙ ap (λ ls. before ++ (ls ++ after)) is) can

      pub frame : l.frame < length mid
      frame = next_frame old before after l can_here mid linked

      pub source : stands_in (links_in mid l.frame) l.source ≡ true
      source = next_source old before after l can_here mid linked

      pub target : stands_in (links_in mid l.frame) l.target ≡ false
      target = next_target old before after l can_here mid linked

      pub one_more : (tree new : Shape) → tree ≡ get_or mid l.frame tree → IsDerived (get_or mid l.frame tree).links new.links l.source l.target → AreLinked (some (links_of s (take (i + 1) ts))) old (slice_set mid l.frame new)
      one_more tree new tree_is derived =
          subst (λ ls. AreLinked ls old (slice_set mid l.frame new)) (sym (next ∙ ap (λ ls. before ++ ls) is))
          (next_linked old before after l can_here mid linked (slice_set mid l.frame new) new.links (tree_set mid l.frame new frame)
          (subst (λ os. IsDerived os new.links l.source l.target) (sym (read mid l.frame tree frame tree_is)) derived))

    pub no_more : here ≡ [] → AreLinked (some (links_of s (take (i + 1) ts))) old mid
    no_more is = subst (λ ls. AreLinked ls old mid) (sym (next ∙ ap (λ ls. before ++ ls) is ∙ append-nil before)) linked
