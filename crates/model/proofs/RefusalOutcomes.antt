-- Why a call is refused.
use Rattle.std.proofs.Common.{◌≡◌, ℕ, ◌/◌, ◌^◌, ◌<◌, ◌==◌, ◌&&◌, not, nat_lt, Bool, true, false, Some, None, Ok, Err, refl, ap, arith, if◌then◌else◌}
use Rattle.std.proofs.lemmas.Bool.{and_parts, and_from, eqb-true, eq-eqb, ltb-true, lt-ltb}
use Rattle.fpage.specs.Fpage.{Flexpage}
use Rattle.model.specs.Definitions.Holdings.{Holdings}
use Rattle.model.specs.Definitions.Calls.{Limits, access, no_such_space, same_space, no_window, out_of_space, Reply, Request}
use Rattle.model.specs.Definitions.Answers.{SendAnswer, UnmapAnswer, ClearAnswer, send_answer, unmap_answer, clear_answer, sent_answer, unmapped_answer, cleared_answer, unless_refused}
use Rattle.model.specs.Definitions.Records.{AccessFields}
use Rattle.model.specs.Laws.RefusalLaws.{AreSpaces, IsSendReply, SendRefusals, IsUnmapReply, UnmapRefusals, IsClearReply, ClearRefusals, HasAddress, IsAccessRequest, AccessRefusals}

-- ---- send

module _ (limits : Limits) (from to : ℕ) (window : Flexpage) (h : Holdings) (a : SendAnswer) where
  -- the reply of a send, by the three tests
  abbrev send_reply : Bool → Bool → Bool → Reply
  send_reply there one none = (unless_refused (if not there then Some no_such_space else if one then Some same_space else if none then Some no_window else None) h (sent_answer a)).reply

  spaces_from : (nat_lt from limits.spaces && nat_lt to limits.spaces) ≡ true → AreSpaces limits from to
  spaces_from is = let parts = and_parts (nat_lt from limits.spaces) (nat_lt to limits.spaces) is in record { sender = ltb-true from limits.spaces parts.0; receiver = ltb-true to limits.spaces parts.1 }

  spaces_to : AreSpaces limits from to → (nat_lt from limits.spaces && nat_lt to limits.spaces) ≡ true
  spaces_to s = and_from _ _ (lt-ltb from limits.spaces s.sender) (lt-ltb to limits.spaces s.receiver)

  by_tests : (there one none : Bool) → (there ≡ true → AreSpaces limits from to) → (AreSpaces limits from to → there ≡ true) → (one ≡ true → from ≡ to) → (from ≡ to → one ≡ true)
      → (none ≡ true → window.count ≡ 0) → (window.count ≡ 0 → none ≡ true) → IsSendReply limits from to window (send_reply there one none)
  by_tests false one none is_there there_is is_one one_is is_none none_is = record {
    no_space = (λ _ s. absurd (cc (there_is s)), λ _. refl);
    one_space = (λ is. absurd (cc is), λ x. absurd (cc (there_is x.0)));
    no_pages = (λ is. absurd (cc is), λ x. absurd (cc (there_is x.0)));
    worked = (λ is. absurd (cc (is.is)), λ x. absurd (cc (there_is x.0)));
  }
  by_tests true true none is_there there_is is_one one_is is_none none_is = record {
    no_space = (λ is. absurd (cc is), λ no. absurd (no (is_there refl)));
    one_space = (λ _. (is_there refl, is_one refl), λ _. refl);
    no_pages = (λ is. absurd (cc is), λ x. absurd (x.1 (is_one refl)));
    worked = (λ is. absurd (cc (is.is)), λ x. absurd (x.1 (is_one refl)));
  }
  by_tests true false true is_there there_is is_one one_is is_none none_is = record {
    no_space = (λ is. absurd (cc is), λ no. absurd (no (is_there refl)));
    one_space = (λ is. absurd (cc is), λ x. absurd (cc (one_is x.1)));
    no_pages = (λ _. (is_there refl, λ same. absurd (cc (one_is same)), is_none refl), λ _. refl);
    worked = (λ is. absurd (cc (is.is)), λ x. absurd (x.2 (is_none refl)));
  }
  by_tests true false false is_there there_is is_one one_is is_none none_is = record {
    no_space = (λ is. absurd (cc is), λ no. absurd (no (is_there refl)));
    one_space = (λ is. absurd (cc is), λ x. absurd (cc (one_is x.1)));
    no_pages = (λ is. absurd (cc is), λ x. absurd (cc (none_is x.2)));
    worked = (λ _. (is_there refl, λ same. absurd (cc (one_is same)), λ none. absurd (cc (none_is none))), λ _. record { counts = a.counts; is = refl });
  }

  send_replies : IsSendReply limits from to window (send_reply (nat_lt from limits.spaces && nat_lt to limits.spaces) (from == to) (window.count == 0))
  send_replies = by_tests _ _ _ spaces_from spaces_to (eqb-true from to) (eq-eqb from to) (eqb-true window.count 0) (eq-eqb window.count 0)

pub send_refusals : SendRefusals
send_refusals limits h from to window items = send_replies limits from to window h (send_answer from to window items h)

-- ---- unmap

module _ (limits : Limits) (space : ℕ) (h : Holdings) (a : UnmapAnswer) where
  unmap_replies : (there : Bool) → (there ≡ true → space < limits.spaces) → (space < limits.spaces → there ≡ true)
      → IsUnmapReply limits space (unless_refused (if there then None else Some no_such_space) h (unmapped_answer a)).reply
  unmap_replies true is_there there_is = record {
    no_space = (λ is. absurd (cc is), λ no. absurd (no (is_there refl)));
    worked = (λ _. is_there refl, λ _. record { words = a.words; is = refl });
  }
  unmap_replies false is_there there_is = record {
    no_space = (λ _ s. absurd (cc (there_is s)), λ _. refl);
    worked = (λ is. absurd (cc (is.is)), λ s. absurd (cc (there_is s)));
  }

pub unmap_refusals : UnmapRefusals
unmap_refusals limits h space f words = unmap_replies limits space h (unmap_answer space f words h) (nat_lt space limits.spaces) (ltb-true space limits.spaces) (lt-ltb space limits.spaces)

-- ---- clear

module _ (limits : Limits) (space : ℕ) (h : Holdings) (a : ClearAnswer) where
  clear_replies : (there : Bool) → (there ≡ true → space < limits.spaces) → (space < limits.spaces → there ≡ true)
      → IsClearReply limits space (unless_refused (if there then None else Some no_such_space) h (cleared_answer a)).reply
  clear_replies true is_there there_is = record {
    no_space = (λ is. absurd (cc is), λ no. absurd (no (is_there refl)));
    worked = (λ _. is_there refl, λ _. record { status = a.status; is = refl });
  }
  clear_replies false is_there there_is = record {
    no_space = (λ _ s. absurd (cc (there_is s)), λ _. refl);
    worked = (λ is. absurd (cc (is.is)), λ s. absurd (cc (there_is s)));
  }

pub clear_refusals : ClearRefusals
clear_refusals limits h space = clear_replies limits space h (clear_answer space h) (nat_lt space limits.spaces) (ltb-true space limits.spaces) (lt-ltb space limits.spaces)

-- ---- access

module _ (limits : Limits) (a : AccessFields) where
  -- it asks for a page
  abbrev asks_for : ℕ → Request
  asks_for page = Ok (access (record { space = a.space; page = page }) a.kind)

  -- what an access asks for, by the two tests
  abbrev asked : Bool → Bool → Request
  asked there inside = if not there then Err no_such_space else if not inside then Err out_of_space else asks_for (a.address / 4096)

  page_of : Request → ℕ
  page_of (Ok (access p kind)) = p.page
  page_of request = 0

  asks_page : (page : ℕ) → asks_for (a.address / 4096) ≡ asks_for page → HasAddress page a.address
  unfolding page_of
  asks_page page is = let same : a.address / 4096 ≡ page = ap page_of is in record { low = omega (arith, same); high = omega (arith, same) }

  by_both : (there inside : Bool) → (there ≡ true → a.space < limits.spaces) → (a.space < limits.spaces → there ≡ true) → (inside ≡ true → a.address < 2 ^ limits.bits) → (a.address < 2 ^ limits.bits → inside ≡ true)
      → IsAccessRequest limits a (asked there inside)
  by_both false inside is_there there_is is_inside inside_is = record {
    no_space = (λ _ s. absurd (cc (there_is s)), λ _. refl);
    past_end = (λ is. absurd (cc is), λ x. absurd (cc (there_is x.0)));
    asks = λ page. (λ is. absurd (cc is), λ x. absurd (cc (there_is x.0)));
  }
  by_both true false is_there there_is is_inside inside_is = record {
    no_space = (λ is. absurd (cc is), λ no. absurd (no (is_there refl)));
    past_end = (λ _. (is_there refl, λ x. absurd (cc (inside_is x))), λ _. refl);
    asks = λ page. (λ is. absurd (cc is), λ x. absurd (cc (inside_is x.1)));
  }
  by_both true true is_there there_is is_inside inside_is = record {
    no_space = (λ is. absurd (cc is), λ no. absurd (no (is_there refl)));
    past_end = (λ is. absurd (cc is), λ x. absurd (x.1 (is_inside refl)));
    asks = λ page. (
      λ is. (is_there refl, is_inside refl, asks_page page is),
      λ x. let same : a.address / 4096 ≡ page = omega (arith, x.2.low, x.2.high) in ap asks_for same,
    );
  }

pub access_refusals : AccessRefusals
access_refusals limits a = by_both limits a (nat_lt a.space limits.spaces) (nat_lt a.address (2 ^ limits.bits)) (ltb-true a.space limits.spaces) (lt-ltb a.space limits.spaces) (ltb-true a.address (2 ^ limits.bits)) (lt-ltb a.address (2 ^ limits.bits))
