-- The phase of some accesses.
use Rattle.std.proofs.Common.{◌≡◌, suc, List, [], ◌∷◌, length, map, filter, get_or, nat_lt, refl, sym, ap, ◌∙◌, arith}
use Rattle.std.specs.List.{All}
use Rattle.fpage.specs.declared.rights.Access.{Access}
use Rattle.space.specs.declared.place.Place.{Place}
use Rattle.space.specs.declared.shards.Shards.{Shards}
use Rattle.space.specs.Shards.{IsPlace}
use Rattle.std.proofs.lemmas.List.Elements.{All-filter}
use Rattle.maptree.specs.Origins.{Shape}
use Rattle.pieces.specs.Laws.{joined}
use Rattle.pieces.specs.Values.{value}
use Rattle.pieces.specs.declared.gathering.Gathered.{Gathered}
use Rattle.pieces.specs.declared.piece.Piece.{Piece}
use Rattle.pieces.specs.declared.piece.Piece.TheVariants as piece
use Rattle.pieces.specs.declared.touch.WordAccess.{WordAccess}
use Rattle.model.specs.Definitions.Holdings.{Holdings}
use Rattle.model.specs.Definitions.Touch.{touch}
use Rattle.pieces.proofs.InPieces.{flat_of_map}
use Rattle.holdings.specs.Contents.{left_with, touched_all, access_answers}
use Rattle.holdings.specs.Places.{IsWithin}
use Rattle.holdings.specs.Inner.Held.{contents_of, holdings_in, layout_in, limits_in}
use Rattle.holdings.specs.Inner.Faults.{is_there, with_faults, word_accesses}
use Rattle.holdings.specs.Inner.Planning.{word_access}
use Rattle.holdings.specs.Inner.Sound.{AreSound}
use Rattle.holdings.specs.Inner.Words.{CanBeWorkedIn, IsPhaseWorked}
use Rattle.holdings.specs.Inner.Phases.{ArePieces, IsPhaseLeft}
use Rattle.holdings.proofs.Contents.Holders.{place_within}
use Rattle.holdings.proofs.Contents.Layouts.{same_layout}
use Rattle.holdings.proofs.Contents.WordChanges.{place_kept}
use Rattle.holdings.proofs.Phases.FaultsAmong.{kept_there, some_touched, some_answered}
use Rattle.holdings.proofs.Phases.Whole.{touches_are_accesses}

-- accesses that give no piece are none
no_access : (s : Shards) (ts : List (Place × Access)) (ps : List Piece) → ArePieces piece.Touch (map (word_access s) ts) ps → length ps ≡ 0 → ts ≡ []
no_access s ts ps cut none = by cut.parts (ap length (sym cut.are) ∙ none) cut.joined ts refl
  where
    by : (parts : List (List WordAccess)) → length (map piece.Touch parts) ≡ 0 → joined parts ≡ map (word_access s) ts → (us : List (Place × Access)) → us ≡ ts → ts ≡ []
    by [] empty all [] is = sym is
    by [] empty all (u ∷ us) is = absurd (cc (all, ap (map (word_access s)) is))
    by (part ∷ parts) empty all us is = absurd (omega (arith, empty))

-- each access has an answer
answers_of_each : (ts : List (Place × Access)) (h : Holdings) → length (access_answers h ts) ≡ length ts
answers_of_each [] h = refl
answers_of_each (t ∷ ts) h = ap suc (answers_of_each ts (touch h t.0 t.1))

module _ (s : Shards) (trees : List Shape) (sound : AreSound s trees) (ts : List (Place × Access)) (within : All (λ t. IsWithin (limits_in s trees) t.0) ts) (ps : List Piece) (cut : ArePieces piece.Touch (word_accesses s ts) ps) where
  -- those whose shards are there
  abbrev those : List (Place × Access)
  those = filter (is_there s) ts

  those_within : All (λ t. IsWithin (limits_in s trees) t.0) those
  those_within = All-filter (is_there s) (λ t. IsWithin (limits_in s trees) t.0) ts within

  pub accesses_can : CanBeWorkedIn s ps
  accesses_can w words = (touches_are_accesses s trees sound w words those those_within (kept_there s ts) ps cut).0

  -- where there is no piece, no access is made
  module _ (none : length ps ≡ 0) where
    none_there : those ≡ []
    none_there = no_access s those ps cut none

    pub no_answers : length (filter (is_there s) ts) ≡ 0
    no_answers = ap length none_there

    pub nothing_touched : contents_of s trees ≡ left_with (contents_of s trees) (touched_all (holdings_in s trees) ts)
    nothing_touched =
        let left = ap (touched_all (holdings_in s trees)) (sym none_there) ∙ some_touched s trees sound ts within in
        λ i. record { limits = limits_in s trees; holdings = left i; layout = layout_in s }

    pub all_faults : with_faults (map (is_there s) ts) [] ≡ access_answers (holdings_in s trees) ts
    all_faults = ap (λ us. with_faults (map (is_there s) ts) (access_answers (holdings_in s trees) us)) (sym none_there) ∙ some_answered s trees sound ts within

  module _ (n : Shards) (g : Gathered) (done : IsPhaseWorked s n ps g) where
    law_left : IsPhaseLeft (limits_in s trees) (touched_all (holdings_in s trees) those) n trees
    law_left = (touches_are_accesses s trees sound done.words done.are those those_within (kept_there s ts) ps cut).2 n done.with

    pub accesses_left : contents_of n trees ≡ left_with (contents_of s trees) (touched_all (holdings_in s trees) ts)
    accesses_left =
        let left = law_left.left ∙ some_touched s trees sound ts within in
        λ i. record { limits = law_left.limits_stay i; holdings = left i; layout = same_layout s n done.with.layout i }

    pub accesses_sound : AreSound n trees
    accesses_sound = law_left.sound

    pub places_still : All (λ t. IsPlace n t.0) ts
    places_still k d less =
        let p = (get_or ts k d).0 in
        place_kept s n done.with.layout p (place_within (limits_in s trees) s trees sound.kept.fits p (within k d less))

    answered : g.answers.items ≡ access_answers (holdings_in s trees) those
    answered =
        done.found.answers ∙ flat_of_map (value done.words) (λ v. v.answers) ps ∙ (touches_are_accesses s trees sound done.words done.are those those_within (kept_there s ts) ps cut).1

    same_there : is_there n ≡ is_there s
    same_there = λ i t. nat_lt (done.with.layout.index t.0 i) (done.with.layout.count i)

    -- as many as there are accesses whose shards are there
    pub each_answered : length g.answers.items ≡ length (filter (is_there n) ts)
    each_answered = ap length answered ∙ answers_of_each those (holdings_in s trees) ∙ ap (λ there. length (filter there ts)) (sym same_there)

    pub accesses_answered : with_faults (map (is_there n) ts) g.answers.items ≡ access_answers (holdings_in s trees) ts
    accesses_answered = (λ i. with_faults (map (same_there i) ts) (answered i)) ∙ some_answered s trees sound ts within
