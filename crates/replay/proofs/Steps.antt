-- The loop over the records of a trace.
use Rattle.std.proofs.Common.{◌≡◌, ℕ, zero, suc, ◌+◌, ◌≤◌, ◌<◌, Bool, false, true, List, [], ◌∷◌, ◌++◌, take, drop, length, Option, refl, sym, ap, ◌∙◌, arith, append_assoc, append-nil}
use Rattle.std.proofs.lemmas.List.{length-append, length-take-le, take-append-drop}
use Rattle.std.specs.Prelude.{◌==◌}
use Rattle.std.proofs.lemmas.Bool.{eqb-true}
use Rattle.std.specs.Io.KnownBytes.{Appends}
use Rattle.model.specs.Definitions.Holdings.{Holdings}
use Rattle.model.specs.Definitions.Calls.{Limits, Reply}
use Rattle.model.specs.Definitions.Replay.{Told}
use Rattle.model.specs.Definitions.Records.{Fields, Version}
use Rattle.model.specs.Definitions.Text.{reply_lines, refused_count}
use Rattle.crew.specs.declared.error.CrewError.{CrewError}
use Rattle.crew.specs.declared.error.CrewError.TheVariants as crew
use Rattle.replay.specs.declared.error.RunError.{RunError}
use Rattle.replay.specs.declared.error.RunError.TheVariants.{BadHeader, BadLimits, NoMemory, NoWorker, Unreadable, WriteFailed}
use Rattle.replay.specs.Run.{StopsBefore}
use Rattle.replay.specs.Steps.{told_of, PassesOn, StopsAt, StopsBehind, StopsAmong, StopsEarly}
use Rattle.replay.proofs.Passing.{appends_same, passes_none, passes_more, passes_end, passes_rest}
use Rattle.replay.proofs.Replays.{take_front, lines_append, refused_append, refused_few, replies_count, told_append}

-- the lines of replies are written or left, and the replies that are wanting are those to the records that are left
pub record SoFar (t : Told) (version : Version) (limits : Limits) (rows : List Fields) (h : Holdings) (number : ℕ) (old now : Option (List ℕ)) (lines : List ℕ) (refused : ℕ) : Type 0 where
  pub done : List Reply
  pub told : t ≡ record { replies = done ++ (told_of version limits rows h).replies; last = (told_of version limits rows h).last }
  pub count : number ≡ length done + 1
  pub lines_are : PassesOn old now (reply_lines 1 done) lines
  pub refused_is : refused ≡ refused_count done

pub so_far-start : (version : Version) (limits : Limits) (rows : List Fields) (h : Holdings) (number : ℕ) (old : Option (List ℕ)) → number ≡ 1 → SoFar (told_of version limits rows h) version limits rows h number old old [] 0
so_far-start version limits rows h number old first = record { done = []; told = refl; count = first; lines_are = passes_none old []; refused_is = refl }

-- these replies were given to the records that come next
pub record AreNext (version : Version) (limits : Limits) (rows : List Fields) (h : Holdings) (replies : List Reply) (last : Holdings) : Type 0 where
  pub within : length replies ≤ length rows
  pub told : told_of version limits (take (length replies) rows) h ≡ record { replies = replies; last = last }

-- all replies, in three parts
split : {t : Told} {version : Version} {limits : Limits} {rows : List Fields} {h : Holdings} {number : ℕ} {old now : Option (List ℕ)} {lines : List ℕ} {refused : ℕ} → SoFar t version limits rows h number old now lines refused
    → {replies : List Reply} {last : Holdings} (next : AreNext version limits rows h replies last) (done : List Reply) → t ≡ record { replies = done ++ (told_of version limits rows h).replies; last = (told_of version limits rows h).last }
    → t ≡ record { replies = (done ++ replies) ++ (told_of version limits (drop (length replies) rows) last).replies; last = (told_of version limits (drop (length replies) rows) last).last }
split {t} {version} {limits} {rows} {h} s {replies} {last} next done is =
    let parts = rw (take-append-drop (length replies) rows, next.told) at (told_append version limits (take (length replies) rows) (drop (length replies) rows) h) in
    is ∙ rw (parts, append_assoc) refl

pub so_far-more : {t : Told} {version : Version} {limits : Limits} {rows : List Fields} {h : Holdings} {number : ℕ} {old now : Option (List ℕ)} {lines : List ℕ} {refused : ℕ} → SoFar t version limits rows h number old now lines refused
    → {replies : List Reply} {last : Holdings} → AreNext version limits rows h replies last → (after : Option (List ℕ)) (left : List ℕ) → PassesOn now after (lines ++ reply_lines number replies) left
    → (more : ℕ) → more ≡ refused_count replies → SoFar t version limits (drop (length replies) rows) last (number + length replies) old after left (refused + more)
so_far-more {t} {version} {limits} {rows} {h} {number} {old} {now} {lines} {refused} s {replies} {last} next after left passed more count =
    let from : 1 + length s.done ≡ number = omega (arith, s.count) in
    let numbered : reply_lines 1 (s.done ++ replies) ≡ reply_lines 1 s.done ++ reply_lines number replies = lines_append 1 s.done replies ∙ ap (λ n. reply_lines 1 s.done ++ reply_lines n replies) from in
    record {
      done = s.done ++ replies;
      told = split s next s.done s.told;
      count = omega (arith, s.count, length-append s.done replies);
      lines_are = rw numbered (passes_more s.lines_are (reply_lines number replies) passed);
      refused_is = rw (refused_append s.done replies, ← s.refused_is, ← count) refl;
    }

-- the records that are left, and the number of the next, otherwise told
pub so_far-same : {t : Told} {version : Version} {limits : Limits} {rows : List Fields} {h : Holdings} {number : ℕ} {old now : Option (List ℕ)} {lines : List ℕ} {refused : ℕ} → SoFar t version limits rows h number old now lines refused
    → (rows2 : List Fields) (number2 : ℕ) → rows2 ≡ rows → number2 ≡ number → SoFar t version limits rows2 h number2 old now lines refused
so_far-same s rows2 number2 same_rows same_number = rw (same_rows, same_number) s

pub none_left : (rows : List Fields) → true ≡ (length rows == 0) → rows ≡ []
none_left [] is = refl
none_left (f ∷ rows) is = let none = eqb-true (length (f ∷ rows)) 0 (sym is) in absurd (omega (arith, none))

pub some_left : (rows : List Fields) → false ≡ (length rows == 0) → 0 < length rows
some_left [] is = absurd (cc is)
some_left (f ∷ rows) is = omega arith

-- no more refusals than records
pub few_refused : {t : Told} {version : Version} {limits : Limits} {rows : List Fields} {h : Holdings} {number : ℕ} {old now : Option (List ℕ)} {lines : List ℕ} {refused : ℕ} → SoFar t version limits rows h number old now lines refused → refused + 1 ≤ number
few_refused s = omega (arith, s.count, s.refused_is, refused_few s.done)

-- ---- the end

pub stopped : {t : Told} {old : Option (List ℕ)} (done others : List Reply) (new : Option (List ℕ)) → t.replies ≡ done ++ others → Appends old new (reply_lines 1 done) → (k : ℕ) → k ≡ length done → StopsBefore t old new k
stopped {t} {old} done others new all written k is =
    let front : take k t.replies ≡ done = rw (all, is) (ap (λ n. take n (done ++ others)) (omega arith) ∙ take_front done others 0 (omega arith) ∙ append-nil done) in
    let whole : length t.replies ≡ length (done ++ others) = ap length all in
    record { within = omega (arith, whole, is, length-append done others); written = appends_same old new (ap (reply_lines 1) (sym front)) written }

-- where a record was not answered
pub so_far-stop : {t : Told} {version : Version} {limits : Limits} {rows : List Fields} {h : Holdings} {number : ℕ} {old now : Option (List ℕ)} {lines : List ℕ} {refused : ℕ} → SoFar t version limits rows h number old now lines refused
    → (why : CrewError) → (why ≡ crew.NoWorker → 0 < length rows) → (new : Option (List ℕ)) (was is failed : Bool) (e : RunError) → is ≡ was → StopsAt why number lines now new is failed e → StopsEarly t old new was failed e
so_far-stop {t} {version} {limits} {rows} {h} s why there new was is failed (NoMemory zero) same stop = absurd (omega (arith, stop.0, s.count))
so_far-stop {t} {version} {limits} {rows} {h} s why there new was is failed (NoMemory (suc k)) same stop = (stopped s.done (told_of version limits rows h).replies new (ap (λ (x : Told). x.replies) s.told) (passes_rest s.lines_are new stop.1) k (omega (arith, stop.0, s.count)), stop.2 ∙ same)
so_far-stop {t} {version} {limits} {rows} {h} s why there new was is failed (NoWorker zero) same stop = absurd (omega (arith, stop.1, s.count))
so_far-stop {t} {version} {limits} {rows} {h} s why there new was is failed (NoWorker (suc k)) same stop =
    let others = (told_of version limits rows h).replies in
    let all = ap (λ (x : Told). x.replies) s.told in
    let whole : length t.replies ≡ length (s.done ++ others) = ap length all in
    let some = there stop.0 in
    (stopped s.done others new all (passes_rest s.lines_are new stop.2) k (omega (arith, stop.1, s.count)), omega (arith, stop.1, s.count, whole, length-append s.done others, replies_count version limits rows h, some), stop.3 ∙ same)
so_far-stop s why there new was is failed WriteFailed same stop = stop
so_far-stop s why there new was is failed BadHeader same stop = stop
so_far-stop s why there new was is failed BadLimits same stop = stop
so_far-stop s why there new was is failed Unreadable same stop = stop

-- where some of the next lines are there
among : {t : Told} {version : Version} {limits : Limits} {rows : List Fields} {h : Holdings} {number : ℕ} {old now : Option (List ℕ)} {lines : List ℕ} {refused : ℕ} → SoFar t version limits rows h number old now lines refused
    → {replies : List Reply} {last : Holdings} → AreNext version limits rows h replies last → (new : Option (List ℕ)) (n : ℕ) → StopsBehind number replies lines now new n → (m : ℕ) → n ≡ suc m → StopsBefore t old new m
among {t} {version} {limits} {rows} {h} {number} {old} {now} {lines} {refused} s {replies} {last} next new n stop m is =
    let others = (told_of version limits (drop (length replies) rows) last).replies in
    let some = take stop.k replies in
    let from : 1 + length s.done ≡ number = omega (arith, s.count) in
    let all : t.replies ≡ (s.done ++ replies) ++ others = ap (λ (x : Told). x.replies) (split s next s.done s.told) in
    let numbered : reply_lines 1 (s.done ++ some) ≡ reply_lines 1 s.done ++ reply_lines number some = lines_append 1 s.done some ∙ ap (λ n. reply_lines 1 s.done ++ reply_lines n some) from in
    let parts : t.replies ≡ (s.done ++ some) ++ (drop stop.k replies ++ others) =
    all ∙ append_assoc s.done replies others ∙ ap (λ l. s.done ++ (l ++ others)) (sym (take-append-drop stop.k replies)) ∙ ap (λ l. s.done ++ l) (append_assoc some (drop stop.k replies) others) ∙ sym (append_assoc s.done some (drop stop.k replies ++ others)) in
    let written : Appends old new (reply_lines 1 (s.done ++ some)) = rw numbered (passes_end s.lines_are new (reply_lines number some) stop.written) in
    stopped (s.done ++ some) (drop stop.k replies ++ others) new parts written m (omega (arith, is, stop.n_is, s.count, length-append s.done some, length-take-le stop.k replies stop.within))

pub so_far-among : {t : Told} {version : Version} {limits : Limits} {rows : List Fields} {h : Holdings} {number : ℕ} {old now : Option (List ℕ)} {lines : List ℕ} {refused : ℕ} → SoFar t version limits rows h number old now lines refused
    → {replies : List Reply} {last : Holdings} → AreNext version limits rows h replies last → (new : Option (List ℕ)) (was is failed : Bool) (e : RunError) → is ≡ was → StopsAmong number replies lines now new is failed e → StopsEarly t old new was failed e
so_far-among s next new was is failed (NoMemory zero) same stop = absurd (omega (arith, stop.0.n_is, s.count))
so_far-among s next new was is failed (NoMemory (suc m)) same stop = (among s next new (suc m) stop.0 m refl, stop.1 ∙ same)
so_far-among s next new was is failed (NoWorker n) same stop = absurd stop
so_far-among s next new was is failed WriteFailed same stop = stop
so_far-among s next new was is failed BadHeader same stop = stop
so_far-among s next new was is failed BadLimits same stop = stop
so_far-among s next new was is failed Unreadable same stop = stop
