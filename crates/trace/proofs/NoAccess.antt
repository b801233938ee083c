-- A record with another name than `access` asks for no access.
use Rattle.std.proofs.Common.{◌≡◌, ℕ, Bool, true, false, ◌&&◌, List, ◌∷◌, length, Option, Some, None, Result, Ok, Err, if◌then◌else◌, codes, refl}
use Rattle.std.specs.Str.{bytes_eq}
use Rattle.fpage.specs.Fpage.{read_fpage}
use Rattle.fpage.specs.Control.{read_control}
use Rattle.fpage.specs.declared.error.FpageError.{FpageError}
use Rattle.model.specs.Definitions.Calls.{Limits, send, unmap, bad_record, Request}
use Rattle.model.specs.Definitions.Records.{Fields, Version, SendFields, UnmapFields, or_refused, read_items, read_words, send_fields, send_request, access_fields, access_request, unmap_fields, unmap_request, clear_fields, clear_request, has_clear, request}
use Rattle.trace.specs.Unread.{access_in}

or_none : {A : Type 0} (r : Result A FpageError) (f : A → Request) → ((x : A) → access_in (Some (f x)) ≡ None) → access_in (Some (or_refused r f)) ≡ None
or_none (Ok x) f each = each x
or_none (Err e) f each = refl

send_none : (limits : Limits) (s : Option SendFields) → access_in (Some (send_request limits s)) ≡ None
send_none limits None = refl
send_none limits (Some s) =
    or_none (read_fpage limits.bits s.window) (λ window. or_refused (read_items limits.bits s.words) (λ items. Ok (send s.from s.to window items)))
    (λ window. or_none (read_items limits.bits s.words) (λ items. Ok (send s.from s.to window items)) (λ items. refl))

unmap_none : (limits : Limits) (u : Option UnmapFields) → access_in (Some (unmap_request limits u)) ≡ None
unmap_none limits None = refl
unmap_none limits (Some u) =
    or_none (read_control u.control (length u.words)) (λ flush. or_refused (read_words limits.bits u.words) (λ named. Ok (unmap u.space flush named)))
    (λ flush. or_none (read_words limits.bits u.words) (λ named. Ok (unmap u.space flush named)) (λ named. refl))

clear_none : (space : Option ℕ) → access_in (Some (clear_request space)) ≡ None
clear_none None = refl
clear_none (Some space) = refl

pub no_access : (version : Version) (limits : Limits) (name : List ℕ) (fields : Fields) → bytes_eq name (codes "access") ≡ false → access_in (Some (request version limits (name ∷ fields))) ≡ None
no_access version limits name fields other =
    by (bytes_eq name (codes "send")) (bytes_eq name (codes "access")) other (bytes_eq name (codes "unmap")) (bytes_eq name (codes "clear") && has_clear version)
  where
    by : (s a : Bool) → a ≡ false → (u c : Bool) → access_in (Some (
        if s then send_request limits (send_fields fields)
        else if a then access_request limits (access_fields fields)
        else if u then unmap_request limits (unmap_fields fields)
        else if c then clear_request (clear_fields fields)
        else Err bad_record)) ≡ None
    by true a is u c = send_none limits (send_fields fields)
    by false true is u c = absurd (cc is)
    by false false is true c = unmap_none limits (unmap_fields fields)
    by false false is false true = clear_none (clear_fields fields)
    by false false is false false = refl
