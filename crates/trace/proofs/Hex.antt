-- Two hexadecimal digits of each byte of a word are its eight digits.
use Rattle.std.proofs.Common.{◌≡◌, ℕ, ◌/◌, ◌%◌, ◌<◌, List, [], ◌∷◌, ◌++◌, get_or, ap, ◌∙◌, arith, w32, append_assoc, Result, Ok, Err, OnOk}
use Rattle.std.specs.Int.{to_be_bytes}
use Rattle.model.specs.Definitions.Text.{hex_digits, hex_code}

-- the two digits of a byte
two_digits : (b high low : ℕ) → b / 16 % 16 ≡ high → b / 1 % 16 ≡ low → hex_digits 2 b ≡ hex_code high ∷ hex_code low ∷ []
two_digits b high low is_high is_low = λ i. hex_code (is_high i) ∷ hex_code (is_low i) ∷ []

pub byte_digits : (b : ℕ) → b < 256 → hex_digits 2 b ≡ hex_code (b / 16) ∷ hex_code (b % 16) ∷ []
byte_digits b small = two_digits b (b / 16) (b % 16) (omega arith) (omega arith)

-- the four bytes of a word
pub word_digits : (n : ℕ) (bytes : List ℕ) → bytes ≡ to_be_bytes w32 n
    → hex_digits 2 (get_or bytes 0 0) ++ (hex_digits 2 (get_or bytes 1 0) ++ (hex_digits 2 (get_or bytes 2 0) ++ hex_digits 2 (get_or bytes 3 0))) ≡ hex_digits 8 n
word_digits n bytes is =
    ap (λ bs. hex_digits 2 (get_or bs 0 0) ++ (hex_digits 2 (get_or bs 1 0) ++ (hex_digits 2 (get_or bs 2 0) ++ hex_digits 2 (get_or bs 3 0)))) is
    ∙ (λ i. first i ++ (second i ++ (third i ++ fourth i)))
  where
    first : hex_digits 2 (n / 16777216 % 256) ≡ hex_code (n / 268435456 % 16) ∷ hex_code (n / 16777216 % 16) ∷ []
    first = two_digits _ _ _ (omega arith) (omega arith)

    second : hex_digits 2 (n / 65536 % 256) ≡ hex_code (n / 1048576 % 16) ∷ hex_code (n / 65536 % 16) ∷ []
    second = two_digits _ _ _ (omega arith) (omega arith)

    third : hex_digits 2 (n / 256 % 256) ≡ hex_code (n / 4096 % 16) ∷ hex_code (n / 256 % 16) ∷ []
    third = two_digits _ _ _ (omega arith) (omega arith)

    fourth : hex_digits 2 (n % 256) ≡ hex_code (n / 16 % 16) ∷ hex_code (n / 1 % 16) ∷ []
    fourth = two_digits _ _ _ (omega arith) (omega arith)

regrouped : (old a b c d : List ℕ) → (((old ++ a) ++ b) ++ c) ++ d ≡ old ++ (a ++ (b ++ (c ++ d)))
regrouped old a b c d = simp append_assoc

-- a text with the bytes of a word pushed behind it
pub word_pushed : {E : Type 0} (r : Result (Unit {0}) E) (n : ℕ) (bytes old t1 t2 t3 t4 : List ℕ) → bytes ≡ to_be_bytes w32 n → t1 ≡ old ++ hex_digits 2 (get_or bytes 0 0) → t2 ≡ t1 ++ hex_digits 2 (get_or bytes 1 0) → t3 ≡ t2 ++ hex_digits 2 (get_or bytes 2 0)
    → OnOk r (t4 ≡ t3 ++ hex_digits 2 (get_or bytes 3 0)) → OnOk r (t4 ≡ old ++ hex_digits 8 n)
word_pushed (Err e) n bytes old t1 t2 t3 t4 is e1 e2 e3 e4 = tt
word_pushed (Ok x) n bytes old t1 t2 t3 t4 is e1 e2 e3 e4 =
    let a = hex_digits 2 (get_or bytes 0 0) in
    let b = hex_digits 2 (get_or bytes 1 0) in
    let c = hex_digits 2 (get_or bytes 2 0) in
    let d = hex_digits 2 (get_or bytes 3 0) in
    e4 ∙ ap (λ t. t ++ d) (e3 ∙ ap (λ t. t ++ c) (e2 ∙ ap (λ t. t ++ b) e1)) ∙ regrouped old a b c d ∙ ap (λ l. old ++ l) (word_digits n bytes is)
