-- The codes that the functions answer: first the refusals in the order of a trace's, then those of a program.
use Rattle.std.specs.Prelude.{ℕ}
use Rattle.model.specs.Definitions.Calls as calls
use Rattle.model.specs.Definitions.Calls.{Refusal}

-- the call was done
abbrev pub done : ℕ
done = 0

abbrev pub bad_size : ℕ
bad_size = 1

abbrev pub misaligned : ℕ
misaligned = 2

abbrev pub out_of_space : ℕ
out_of_space = 3

abbrev pub not_an_item : ℕ
not_an_item = 4

abbrev pub bad_control : ℕ
bad_control = 5

abbrev pub no_such_space : ℕ
no_such_space = 6

abbrev pub same_space : ℕ
same_space = 7

abbrev pub no_window : ℕ
no_window = 8

-- what is a bad record in a trace: the number of items' words is not served, or there is no such kind of access
abbrev pub bad_call : ℕ
bad_call = 9

abbrev pub bad_limits : ℕ
bad_limits = 10

-- memory for a new database was refused
abbrev pub no_memory : ℕ
no_memory = 11

-- this call, or one before, ran out of memory in the middle
abbrev pub is_halted_code : ℕ
is_halted_code = 12

-- the handle holds no database
abbrev pub is_empty : ℕ
is_empty = 13

-- the handle holds a database already
abbrev pub holds_one : ℕ
holds_one = 14

-- the code of a refusal
abbrev pub refusal_code : Refusal → ℕ
refusal_code calls.bad_size = bad_size
refusal_code calls.misaligned = misaligned
refusal_code calls.out_of_space = out_of_space
refusal_code calls.not_an_item = not_an_item
refusal_code calls.bad_control = bad_control
refusal_code calls.no_such_space = no_such_space
refusal_code calls.same_space = same_space
refusal_code calls.no_window = no_window
refusal_code calls.bad_record = bad_call
