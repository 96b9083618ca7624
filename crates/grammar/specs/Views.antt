-- What each answer of the readers says, as the grammar has it: what was read and the place behind it, or nothing.
-- Assumes nothing: these are definitions.
use Rattle.std.specs.Prelude.{ℕ, ◌-◌, ◌≤◌, ◌<◌, List, Option, Some, None}
use lib.{ListN.take, ListN.drop}
use Rattle.grammar.specs.{Grammar.Read, Grammar.fails, Grammar.reads, declared.Found.Found}

-- the byte at a place; past the end 256, which no byte is
abbrev pub peeked : Option ℕ → ℕ
peeked (Some x) = x
peeked None = 256

-- what a decimal digit is worth; 10 where none stands
abbrev pub counted : Option ℕ → ℕ
counted (Some d) = d
counted None = 10

-- the place behind what stands there
abbrev pub seen_next : Option ℕ → Read (Unit {0})
seen_next (Some j) = reads tt j
seen_next None = fails

-- a value and the place behind it
abbrev pub seen : {A : Type 0} → Option (Found A) → Read A
seen (Some f) = reads f.value f.next
seen None = fails

-- the bytes of s from i up to the place that was found
abbrev pub seen_line : List ℕ → ℕ → Option ℕ → Read (List ℕ)
seen_line s i (Some place) = reads (take (place - i) (drop i s)) place
seen_line s i None = fails

-- a place that was found lies from i on and before n
abbrev pub Lies : Option ℕ → ℕ → ℕ → Type 0
Lies (Some place) i n = (i ≤ place) × (place < n)
Lies None i n = Unit {0}

-- ---- document 01's number of each answer: 14 where nothing was read, and 0 stands for none
abbrev pub answer_refusal : {A : Type 0} → Option A → ℕ
answer_refusal (Some a) = 0
answer_refusal None = 14

-- document 01's number where this part has to stand: without it a sheet is not of its form. Tried as one of two ways it
-- is no refusal yet. 0 is none
abbrev pub refusal_of : {A : Type 0} → Read A → ℕ
refusal_of fails = 14
refusal_of (reads a j) = 0
