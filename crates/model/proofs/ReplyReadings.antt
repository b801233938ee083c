-- What is written of replies, and of a whole trace, reads back.
use Rattle.std.proofs.Common.{◌≡◌, ℕ, zero, suc, ◌+◌, ◌^◌, ◌<◌, ◌≤◌, ◌==◌, true, false, Bool, List, [], ◌∷◌, ◌++◌, length, drop, get_or, codes, append_assoc, refl, sym, ap, ◌∙◌, arith, if◌then◌else◌}
use Rattle.std.specs.List.{All}
use Rattle.std.specs.Fmt.{decimal}
use Rattle.std.specs.Str.Parse.{digits_value}
use Rattle.std.proofs.lemmas.List.{append_cancel_left}
use Rattle.std.proofs.lemmas.List.Sums.{length-filter}
use Rattle.fpage.specs.Rights.{number, of_bits}
use Rattle.fpage.specs.declared.rights.Rights.{Rights}
use Rattle.space.specs.declared.place.Place.{Place}
use Rattle.model.specs.Definitions.Holdings.{Held, Holdings}
use Rattle.model.specs.Definitions.Items.{Counts}
use Rattle.model.specs.Definitions.Calls.{Refusal, bad_size, misaligned, out_of_space, not_an_item, bad_control, no_such_space, same_space, no_window, bad_record, Reply, sent, accessed, unmapped, cleared, refused}
use Rattle.model.specs.Definitions.Replay.{Told}
use Rattle.model.specs.Definitions.Text.{refusal_name, counts_text, hex_digits, clear_word, words_text, reply_text, reply_line, reply_lines, audit_line, audit_lines, is_refused, refused_count, end_line, text}
use Rattle.model.specs.Laws.TextLaws.{HasDigits, MappingHasDigits, CountsHaveDigits, ReplyHasDigits, LineIsOfOneReply, TextIsOfOneResult, EndIsOfTwoNumbers, IsRefusal, RefusalsAreTold, EndCountsReplies}
use Rattle.model.proofs.KeptBits.{number_small, status_read}
use Rattle.model.proofs.TextReadings.{decimal_then, no_decimal, hex_reads_back, line_onto, line_is, line_then}

-- ---- counts

counts_onto : Counts → List ℕ → List ℕ
counts_onto c s =
    codes "absent=" ++ (decimal c.absent ++ (codes " norights=" ++ (decimal c.norights ++ (codes " origin=" ++ (decimal c.origin
    ++ (codes " lost=" ++ (decimal c.lost ++ (codes " extended=" ++ (decimal c.extended ++ (codes " linked=" ++ (decimal c.linked ++ (10 ∷ s))))))))))))

counts_is : (c : Counts) (s : List ℕ) → counts_text c ++ (10 ∷ s) ≡ counts_onto c s
unfolding counts_onto
counts_is c s = simp append_assoc

counts_then : (c d : Counts) → CountsHaveDigits c → CountsHaveDigits d → (s t : List ℕ) → counts_onto c s ≡ counts_onto d t → (c ≡ d) × (s ≡ t)
unfolding counts_onto
counts_then c d small_c small_d s t is =
    let absent = decimal_then c.absent d.absent small_c.absent small_d.absent 32 32 (omega arith) (omega arith) _ _ (ap (drop 7) is) in
    let norights = decimal_then c.norights d.norights small_c.norights small_d.norights 32 32 (omega arith) (omega arith) _ _ (ap (drop 10) absent.1) in
    let origin = decimal_then c.origin d.origin small_c.origin small_d.origin 32 32 (omega arith) (omega arith) _ _ (ap (drop 8) norights.1) in
    let lost = decimal_then c.lost d.lost small_c.lost small_d.lost 32 32 (omega arith) (omega arith) _ _ (ap (drop 6) origin.1) in
    let extended = decimal_then c.extended d.extended small_c.extended small_d.extended 32 32 (omega arith) (omega arith) _ _ (ap (drop 10) lost.1) in
    let linked = decimal_then c.linked d.linked small_c.linked small_d.linked 10 10 (omega arith) (omega arith) _ _ (ap (drop 8) extended.1) in
    (λ i. record { absent = absent.0 i; norights = norights.0 i; origin = origin.0 i; lost = lost.0 i; extended = extended.0 i; linked = linked.0 i }, ap (drop 1) linked.1)

-- ---- words

hex_then : (count m n : ℕ) (s t : List ℕ) → hex_digits count m ++ s ≡ hex_digits count n ++ t → (hex_digits count m ≡ hex_digits count n) × (s ≡ t)
hex_then zero m n s t is = (refl, is)
hex_then (suc count) m n s t is =
    let r = hex_then count m n s t (ap (drop 1) is) in
    (λ i. get_or (is i) 0 0 ∷ r.0 i, r.1)

words_is : (w : ℕ) (ws s : List ℕ) → words_text (w ∷ ws) ++ s ≡ 32 ∷ (hex_digits 8 w ++ (words_text ws ++ s))
words_is w ws s = ap (λ x. 32 ∷ x) (append_assoc (hex_digits 8 w) (words_text ws) s)

words_then : (ws vs : List ℕ) (s t : List ℕ) → All (λ w. w < 2 ^ 32) ws → All (λ w. w < 2 ^ 32) vs → words_text ws ++ (10 ∷ s) ≡ words_text vs ++ (10 ∷ t) → (ws ≡ vs) × (s ≡ t)
words_then [] [] s t small_w small_v is = (refl, ap (drop 1) is)
words_then [] (v ∷ vs) s t small_w small_v is = let first : 10 ≡ 32 = ap (λ x. get_or x 0 0) is in absurd (omega (arith, first))
words_then (w ∷ ws) [] s t small_w small_v is = let first : 32 ≡ 10 = ap (λ x. get_or x 0 0) is in absurd (omega (arith, first))
words_then (w ∷ ws) (v ∷ vs) s t small_w small_v is =
    let both = sym (words_is w ws (10 ∷ s)) ∙ is ∙ words_is v vs (10 ∷ t) in
    let digits = hex_then 8 w v (words_text ws ++ (10 ∷ s)) (words_text vs ++ (10 ∷ t)) (ap (drop 1) both) in
    let word : w ≡ v = sym (hex_reads_back w (small_w 0 w (omega arith))).1 ∙ ap (digits_value 16) digits.0 ∙ (hex_reads_back v (small_v 0 v (omega arith))).1 in
    let rest = words_then ws vs s t (λ k x below. small_w (suc k) x (omega arith)) (λ k x below. small_v (suc k) x (omega arith)) digits.1 in
    (λ i. word i ∷ rest.0 i, rest.1)

-- ---- the status of a clear

clear_word_small : (status : Rights) → clear_word status < 2 ^ 32
clear_word_small status = by (number status) (number_small status)
  where
    by : (n : ℕ) → n < 8 → 16 + n < 2 ^ 32
    by n small = omega (arith, small)

status_then : (x y : Rights) (s t : List ℕ) → hex_digits 8 (clear_word x) ++ (10 ∷ s) ≡ hex_digits 8 (clear_word y) ++ (10 ∷ t) → (x ≡ y) × (s ≡ t)
status_then x y s t is =
    let digits = hex_then 8 (clear_word x) (clear_word y) (10 ∷ s) (10 ∷ t) is in
    let word : clear_word x ≡ clear_word y =
    sym (hex_reads_back (clear_word x) (clear_word_small x)).1 ∙ ap (digits_value 16) digits.0 ∙ (hex_reads_back (clear_word y) (clear_word_small y)).1 in
    (sym (status_read 16 x) ∙ ap of_bits word ∙ status_read 16 y, ap (drop 1) digits.1)

-- ---- refusals

-- the refusal whose name has this fourth letter
of_letter : ℕ → Refusal
of_letter c =
    if c == 83 then bad_size else if c == 97 then misaligned else if c == 79 then out_of_space else if c == 65 then not_an_item else if c == 67 then bad_control
    else if c == 117 then no_such_space else if c == 101 then same_space else if c == 105 then no_window else bad_record

letter_is : (r : Refusal) (s : List ℕ) → of_letter (get_or (refusal_name r ++ s) 3 0) ≡ r
unfolding of_letter
letter_is bad_size s = refl
letter_is misaligned s = refl
letter_is out_of_space s = refl
letter_is not_an_item s = refl
letter_is bad_control s = refl
letter_is no_such_space s = refl
letter_is same_space s = refl
letter_is no_window s = refl
letter_is bad_record s = refl

name_then : (r q : Refusal) (s t : List ℕ) → refusal_name r ++ (10 ∷ s) ≡ refusal_name q ++ (10 ∷ t) → (r ≡ q) × (s ≡ t)
name_then r q s t is =
    let same : r ≡ q = sym (letter_is r (10 ∷ s)) ∙ ap (λ x. of_letter (get_or x 3 0)) is ∙ letter_is q (10 ∷ t) in
    let rest : refusal_name r ++ (10 ∷ s) ≡ refusal_name r ++ (10 ∷ t) = is ∙ ap (λ x. refusal_name x ++ (10 ∷ t)) (sym same) in
    (same, ap (drop 1) (append_cancel_left (refusal_name r) _ _ rest))

-- ---- replies

-- the letter with which a reply begins
kind_letter : Reply → ℕ
kind_letter (sent c) = 115
kind_letter (accessed ok) = 97
kind_letter (unmapped words) = 117
kind_letter (cleared status) = 99
kind_letter (refused r) = 114

begins : (r : Reply) (s : List ℕ) → get_or (reply_text r ++ s) 0 0 ≡ kind_letter r
unfolding kind_letter
begins (sent c) s = refl
begins (accessed true) s = refl
begins (accessed false) s = refl
begins (unmapped words) s = refl
begins (cleared status) s = refl
begins (refused r) s = refl

reply_then : (r q : Reply) → ReplyHasDigits r → ReplyHasDigits q → (s t : List ℕ) → reply_text r ++ (10 ∷ s) ≡ reply_text q ++ (10 ∷ t) → (r ≡ q) × (s ≡ t)
unfolding kind_letter
reply_then r q small_r small_q s t is = by r q small_r small_q is (sym (begins r (10 ∷ s)) ∙ ap (λ x. get_or x 0 0) is ∙ begins q (10 ∷ t))
  where
    ok_then : (x y : Bool) → reply_text (accessed x) ++ (10 ∷ s) ≡ reply_text (accessed y) ++ (10 ∷ t) → (accessed x ≡ accessed y) × (s ≡ t)
    ok_then true true is = (refl, ap (drop 10) is)
    ok_then true false is = let letters : 111 ≡ 102 = ap (λ x. get_or x 7 0) is in absurd (omega (arith, letters))
    ok_then false true is = let letters : 102 ≡ 111 = ap (λ x. get_or x 7 0) is in absurd (omega (arith, letters))
    ok_then false false is = (refl, ap (drop 13) is)

    by : (r q : Reply) → ReplyHasDigits r → ReplyHasDigits q → reply_text r ++ (10 ∷ s) ≡ reply_text q ++ (10 ∷ t) → kind_letter r ≡ kind_letter q → (r ≡ q) × (s ≡ t)
    by (sent c) (sent d) small_r small_q is kinds = let r = counts_then c d small_r small_q s t (sym (counts_is c s) ∙ ap (drop 5) is ∙ counts_is d t) in (ap sent r.0, r.1)
    by (accessed x) (accessed y) small_r small_q is kinds = ok_then x y is
    by (unmapped ws) (unmapped vs) small_r small_q is kinds = let r = words_then ws vs s t small_r small_q (ap (drop 5) is) in (ap unmapped r.0, r.1)
    by (cleared x) (cleared y) small_r small_q is kinds = let r = status_then x y s t (ap (drop 6) is) in (ap cleared r.0, r.1)
    by (refused r) (refused q) small_r small_q is kinds = let n = name_then r q s t (ap (drop 8) is) in (ap refused n.0, n.1)
    by (sent c) (accessed y) small_r small_q is kinds = absurd (omega (arith, kinds))
    by (sent c) (unmapped vs) small_r small_q is kinds = absurd (omega (arith, kinds))
    by (sent c) (refused q) small_r small_q is kinds = absurd (omega (arith, kinds))
    by (accessed x) (sent d) small_r small_q is kinds = absurd (omega (arith, kinds))
    by (accessed x) (unmapped vs) small_r small_q is kinds = absurd (omega (arith, kinds))
    by (accessed x) (refused q) small_r small_q is kinds = absurd (omega (arith, kinds))
    by (unmapped ws) (sent d) small_r small_q is kinds = absurd (omega (arith, kinds))
    by (unmapped ws) (accessed y) small_r small_q is kinds = absurd (omega (arith, kinds))
    by (unmapped ws) (refused q) small_r small_q is kinds = absurd (omega (arith, kinds))
    by (refused r) (sent d) small_r small_q is kinds = absurd (omega (arith, kinds))
    by (refused r) (accessed y) small_r small_q is kinds = absurd (omega (arith, kinds))
    by (refused r) (unmapped vs) small_r small_q is kinds = absurd (omega (arith, kinds))
    by (sent c) (cleared y) small_r small_q is kinds = absurd (omega (arith, kinds))
    by (accessed x) (cleared y) small_r small_q is kinds = absurd (omega (arith, kinds))
    by (unmapped ws) (cleared y) small_r small_q is kinds = absurd (omega (arith, kinds))
    by (refused r) (cleared y) small_r small_q is kinds = absurd (omega (arith, kinds))
    by (cleared x) (sent d) small_r small_q is kinds = absurd (omega (arith, kinds))
    by (cleared x) (accessed y) small_r small_q is kinds = absurd (omega (arith, kinds))
    by (cleared x) (unmapped vs) small_r small_q is kinds = absurd (omega (arith, kinds))
    by (cleared x) (refused q) small_r small_q is kinds = absurd (omega (arith, kinds))

-- ---- lines

-- a reply's line, and what follows it
reply_is : (n : ℕ) (r : Reply) (s : List ℕ) → reply_line n r ++ s ≡ decimal n ++ (32 ∷ (reply_text r ++ (10 ∷ s)))
reply_is n r s = simp append_assoc

reply_line_then : (m n : ℕ) (r q : Reply) → HasDigits m → HasDigits n → ReplyHasDigits r → ReplyHasDigits q → (s t : List ℕ) → reply_line m r ++ s ≡ reply_line n q ++ t → (m ≡ n) × (r ≡ q) × (s ≡ t)
reply_line_then m n r q small_m small_n small_r small_q s t is =
    let number = decimal_then m n small_m small_n 32 32 (omega arith) (omega arith) _ _ (sym (reply_is m r s) ∙ is ∙ reply_is n q t) in
    let reply = reply_then r q small_r small_q s t (ap (drop 1) number.1) in
    (number.0, reply.0, reply.1)

pub line_is_of_one_reply : LineIsOfOneReply
line_is_of_one_reply m n r q small_m small_n small_r small_q is =
    let x = reply_line_then m n r q small_m small_n small_r small_q [] [] (ap (λ z. z ++ []) is) in
    (x.0, x.1)

end_is : (a b : ℕ) → end_line a b ≡ codes "end " ++ (decimal a ++ (32 ∷ (decimal b ++ (10 ∷ []))))
end_is a b = simp append_assoc

pub end_is_of_two_numbers : EndIsOfTwoNumbers
end_is_of_two_numbers a b c d small_a small_b small_c small_d is =
    let first = decimal_then a c small_a small_c 32 32 (omega arith) (omega arith) _ _ (ap (drop 4) (sym (end_is a b) ∙ is ∙ end_is c d)) in
    let second = decimal_then b d small_b small_d 10 10 (omega arith) (omega arith) _ _ (ap (drop 1) first.1) in
    (first.0, second.0)

refusal_from : (r : Reply) → is_refused r ≡ true → IsRefusal r
refusal_from (sent c) is = absurd (cc is)
refusal_from (accessed ok) is = absurd (cc is)
refusal_from (unmapped words) is = absurd (cc is)
refusal_from (cleared status) is = absurd (cc is)
refusal_from (refused r) is = record { why = r; is = refl }

pub refusals_are_told : RefusalsAreTold
refusals_are_told r = (refusal_from r, λ x. ap is_refused x.is)

pub end_counts_replies : EndCountsReplies
end_counts_replies t = record {
  before = reply_lines 1 t.replies ++ audit_lines t.last;
  is = ap (λ n. reply_lines 1 t.replies ++ audit_lines t.last ++ end_line (length t.replies) n) (sym (length-filter is_refused t.replies));
}

-- ---- the whole

-- no reply's line begins here
abbrev NoReply : List ℕ → Type 0
NoReply s = (n : ℕ) (r : Reply) (t : List ℕ) → HasDigits n → s ≡ reply_line n r ++ t → ⊥

replies_then : (n : ℕ) (rs qs : List Reply) → n + length rs ≤ 10 ^ 64 → n + length qs ≤ 10 ^ 64 → All ReplyHasDigits rs → All ReplyHasDigits qs → (s t : List ℕ) → NoReply s → NoReply t
    → reply_lines n rs ++ s ≡ reply_lines n qs ++ t → (rs ≡ qs) × (s ≡ t)
replies_then n [] [] small_n small_m small_r small_q s t no_s no_t is = (refl, is)
replies_then n [] (q ∷ qs) small_n small_m small_r small_q s t no_s no_t is = absurd (no_s n q (reply_lines (n + 1) qs ++ t) (omega arith) (is ∙ append_assoc (reply_line n q) (reply_lines (n + 1) qs) t))
replies_then n (r ∷ rs) [] small_n small_m small_r small_q s t no_s no_t is = absurd (no_t n r (reply_lines (n + 1) rs ++ s) (omega arith) (sym is ∙ append_assoc (reply_line n r) (reply_lines (n + 1) rs) s))
replies_then n (r ∷ rs) (q ∷ qs) small_n small_m small_r small_q s t no_s no_t is =
    let first = reply_line_then n n r q (omega arith) (omega arith) (small_r 0 r (omega arith)) (small_q 0 q (omega arith)) (reply_lines (n + 1) rs ++ s) (reply_lines (n + 1) qs ++ t)
    (sym (append_assoc (reply_line n r) (reply_lines (n + 1) rs) s) ∙ is ∙ append_assoc (reply_line n q) (reply_lines (n + 1) qs) t) in
    let rest = replies_then (n + 1) rs qs (omega arith) (omega arith) (λ k x below. small_r (suc k) x (omega arith)) (λ k x below. small_q (suc k) x (omega arith)) s t no_s no_t first.2 in
    (λ i. first.1 i ∷ rest.0 i, rest.1)

-- the audit and the end line begin with no reply's line
audit_no_reply : (h : Holdings) (s : List ℕ) → All MappingHasDigits h → NoReply (audit_lines h ++ (101 ∷ s))
audit_no_reply [] s small n r t small_n is = no_decimal n small_n 101 32 (omega arith) (omega arith) _ _ (is ∙ reply_is n r t)
audit_no_reply (e ∷ h) s small n r t small_n is =
    let here = small 0 e (omega arith) in
    let x = decimal_then e.0.space n here.place.space small_n 44 32 (omega arith) (omega arith) _ _
    (sym (line_is e (audit_lines h ++ (101 ∷ s))) ∙ sym (append_assoc (audit_line e) (audit_lines h) (101 ∷ s)) ∙ is ∙ reply_is n r t) in
    let letters : 44 ≡ 32 = ap (λ z. get_or z 0 0) x.1 in
    omega (arith, letters)

no_audit : (e : Place × Held) → MappingHasDigits e → (s t : List ℕ) → 101 ∷ t ≡ line_onto e s → ⊥
no_audit e small s t is = no_decimal e.0.space small.place.space 101 44 (omega arith) (omega arith) _ _ is

audit_then : (h k : Holdings) (s t : List ℕ) → All MappingHasDigits h → All MappingHasDigits k → audit_lines h ++ (101 ∷ s) ≡ audit_lines k ++ (101 ∷ t) → h ≡ k
audit_then [] [] s t small_h small_k is = refl
audit_then [] (e ∷ k) s t small_h small_k is =
    absurd (no_audit e (small_k 0 e (omega arith)) (audit_lines k ++ (101 ∷ t)) s (is ∙ append_assoc (audit_line e) (audit_lines k) (101 ∷ t) ∙ line_is e (audit_lines k ++ (101 ∷ t))))
audit_then (d ∷ h) [] s t small_h small_k is =
    absurd (no_audit d (small_h 0 d (omega arith)) (audit_lines h ++ (101 ∷ s)) t (sym is ∙ append_assoc (audit_line d) (audit_lines h) (101 ∷ s) ∙ line_is d (audit_lines h ++ (101 ∷ s))))
audit_then (d ∷ h) (e ∷ k) s t small_h small_k is =
    let r = line_then d e (small_h 0 d (omega arith)) (small_k 0 e (omega arith)) (audit_lines h ++ (101 ∷ s)) (audit_lines k ++ (101 ∷ t))
    (sym (line_is d (audit_lines h ++ (101 ∷ s))) ∙ sym (append_assoc (audit_line d) (audit_lines h) (101 ∷ s)) ∙ is ∙ append_assoc (audit_line e) (audit_lines k) (101 ∷ t) ∙ line_is e (audit_lines k ++ (101 ∷ t))) in
    let rest = audit_then h k s t (λ i x below. small_h (suc i) x (omega arith)) (λ i x below. small_k (suc i) x (omega arith)) r.1 in
    λ i. r.0 i ∷ rest i

-- what follows the first letter of the end line
abbrev end_of : Told → List ℕ
end_of t = drop 1 (end_line (length t.replies) (refused_count t.replies))

whole : (t : Told) → text t ≡ reply_lines 1 t.replies ++ (audit_lines t.last ++ (101 ∷ end_of t))
whole t = append_assoc (reply_lines 1 t.replies) (audit_lines t.last) (101 ∷ end_of t)

pub text_is_of_one_result : TextIsOfOneResult
text_is_of_one_result t u small_t small_u is =
    let replies = replies_then 1 t.replies u.replies (omega (arith, small_t.count)) (omega (arith, small_u.count)) small_t.replies small_u.replies (audit_lines t.last ++ (101 ∷ end_of t)) (audit_lines u.last ++ (101 ∷ end_of u))
    (audit_no_reply t.last (end_of t) small_t.last) (audit_no_reply u.last (end_of u) small_u.last) (sym (whole t) ∙ is ∙ whole u) in
    let last = audit_then t.last u.last (end_of t) (end_of u) small_t.last small_u.last replies.1 in
    λ i. record { replies = replies.0 i; last = last i }
