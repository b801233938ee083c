-- All parts are kept.
use Rattle.std.proofs.Common.{◌≡◌, true, List, [], ◌∷◌, refl, sym, ap, ◌∙◌}
use Rattle.std.specs.List.{list_all, filter}
use Rattle.space.specs.declared.node.Node.{Node}
use Rattle.space.specs.declared.slice.Slice.{Slice}
use Rattle.maptree.specs.Origins.{Origins, Shape}
use Rattle.space.specs.Slices.{nodes_of}
use Rattle.maptree.specs.Cuts.{kept_of, IsCut, AreKept}
use Rattle.page_tests.proofs.trees.cuts.put_back.Goals as goal

filter_all : {A : Type 0} (xs : List A) → filter (λ _. true) xs ≡ xs
filter_all [] = refl
filter_all (x ∷ xs) = ap (λ ys. x ∷ ys) (filter_all xs)

all_kept : (parts : List (List Node)) → parts ≡ kept_of (λ _. true) parts
all_kept [] = refl
all_kept (ns ∷ parts) = ap (λ xs. xs ∷ parts) (sym (filter_all ns)) ∙ ap (λ xs. filter (λ _. true) ns ∷ xs) (all_kept parts)

all_pass : {A : Type 0} (xs : List A) → list_all (λ _. true) xs ≡ true
all_pass [] = refl
all_pass (x ∷ xs) = all_pass xs

abbrev whole_kept : (os : Origins) (parts : List Slice) (tree : Shape) → IsCut os (nodes_of parts) tree → AreKept tree parts
whole_kept os parts tree cut = record {
  whole = os;
  given = nodes_of parts;
  cut = cut;
  keep = λ _. true;
  kept = all_kept (nodes_of parts);
  left = all_pass tree.links;
  origins = λ _ _ _ _. refl;
}

pub splice-requires : goal.splice-requires
splice-requires c = whole_kept c.args.tree.now.links c.in_ok-parts.parts.items c.cut.new.self c.in_ok-parts.ensures.cut

pub returns : goal.returns
returns c =
    let os = c.args.tree.now.links in
    c.in_ok-splice.ensures.links (whole_kept os c.in_ok-parts.parts.items c.cut.new.self c.in_ok-parts.ensures.cut) ∙ filter_all os
