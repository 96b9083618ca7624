-- The decoder answers the number of the first check of document 01's table that applies, whatever the kind of board.
-- Assumes nothing.
use Prim.Native.Nat.{ℕ}
use mathlib.Core.Path.{◌≡◌, refl, sym, ap, ◌∙◌, subst}
use mathlib.Core.Bool.{Bool, true, false, cond, not, ◌&&◌, ◌||◌}
use mathlib.Core.List.{List, [], ◌∷◌, map}
use lib.Dec.{T, ltb, eqb}
use lib.ListN.{length}
use borrow.Author.Tests.{eqb-true}
use Rattle.laws.proofs.Cases.{cases}
use Rattle.kinds.specs.Kinds.{board_of, is_in}
use Rattle.kinds.specs.declared.Kind.{Kind}
use Rattle.kinds.specs.declared.Kind.TheVariants.{Distribution, Battery, Integrated}
use Rattle.value.specs.Values.{read_of}
use Rattle.std.specs.Prelude.{Result, Ok, Err}
use Rattle.value.specs.declared.ParamValue.{ParamValue}
use Rattle.value.specs.declared.ValueRefusal.{ValueRefusal}
use Rattle.settings.specs.Table.{parameter_of}
use Rattle.settings.specs.declared.Parameter.{Parameter}
use Rattle.settings.specs.declared.Parameter.TheVariants.{ReadWrite, ReadOnly, Unknown}
use Rattle.command.specs.Table.{Row, ◌is◌of◌bytes, ◌is◌of◌bytes_with_key◌, command_table, find}
use Rattle.command.specs.Decode.{Decoded, fewer_than_four, header_is, stid_of, ivid_of, code_of, bid_of, byte_after, id_of, value_part, get_by, getting, valued, set_by, setting, reset_by, resetting, carried, header_of, listed, decode_of}
use Rattle.command.specs.Answers.{refusal_number, decoded_number}
use Rattle.command.specs.Checks.{first, header_differs, shorter, key_wrong, id_wrong, is_too_short, is_nan_value, value_reads, mode_alone, checks}
use Rattle.command.specs.declared.Refusal.{Refusal}
use Rattle.command.specs.declared.Refusal.TheVariants.{TooShort, WrongKey}

-- what holds at each of some numbers, and at one that is none of them, holds
infixr 20 ◌and◌
pub data Each (P : ℕ → Type 0) : List ℕ → Type 0 where
  none : Each P []
  ◌and◌ : {c : ℕ} {cs : List ℕ} → P c → Each P cs → Each P (c ∷ cs)

pub by_code : (P : ℕ → Type 0) (k : ℕ) (cs : List ℕ) → Each P cs → (is_in k cs ≡ false → P k) → P k
unfolding is_in
by_code P k [] none other = other refl
by_code P k (c ∷ cs) (p and ps) other = cases (eqb k c) (λ e. subst P (sym (eqb-true k c e)) p) (λ e. by_code P k cs ps (λ h. other (rw e h)))

-- ---- the codes of the table
abbrev pub code_in : Row → ℕ
code_in (c is name of n bytes) = c
code_in (c is name of n bytes_with_key k) = c

abbrev pub table_codes : List ℕ
table_codes = map code_in command_table

-- what holds at each code of the table holds at one that is among them
pub at_code : (P : ℕ → Type 0) (k : ℕ) (cs : List ℕ) → is_in k cs ≡ true → Each P cs → P k
at_code P k cs h each = by_code P k cs each (λ e. absurd (subst T (sym (sym e ∙ h)) tt))

-- every code of every kind of board is in the table, so that a board's code has a command
unfoldable all_in : List ℕ → List ℕ → Bool
all_in [] all = true
all_in (c ∷ cs) all = is_in c all && all_in cs all

and_both : (a b : Bool) → a && b ≡ true → (a ≡ true) × (b ≡ true)
and_both true b h = (refl, h)
and_both false b h = absurd (subst T (sym h) tt)

one_of_all : (k : ℕ) (cs all : List ℕ) → all_in cs all ≡ true → is_in k cs ≡ true → is_in k all ≡ true
unfolding all_in is_in
one_of_all k [] all h e = absurd (subst T (sym e) tt)
one_of_all k (c ∷ cs) all h e =
    let w = and_both (is_in c all) (all_in cs all) h in
    cases (eqb k c) (λ q. ap (λ (x : ℕ). is_in x all) (eqb-true k c q) ∙ w.0) (λ q. one_of_all k cs all w.1 (rw q at e))

in_the_table : (kind : Kind) → all_in (board_of kind).codes table_codes ≡ true
unfolding all_in is_in command_table
in_the_table Distribution = refl
in_the_table (Battery abf) = refl
in_the_table (Integrated daughterboard) = refl

pub has_a_command : (kind : Kind) (code : ℕ) → is_in code (board_of kind).codes ≡ true → is_in code table_codes ≡ true
has_a_command kind code h = one_of_all code (board_of kind).codes table_codes (in_the_table kind) h

-- ---- the number of an answer behind a check
behind : (b : Bool) (r : Refusal) (d : Decoded) → decoded_number (cond b (Err r) d) ≡ cond b (refusal_number r) (decoded_number d)
behind true r d = refl
behind false r d = refl

get_number_lem : (id : ℕ) (p : Parameter) → decoded_number (get_by id p) ≡ cond (id_wrong 0x82 p) 7 0
unfolding id_wrong
get_number_lem id (ReadWrite t) = refl
get_number_lem id (ReadOnly t) = refl
get_number_lem id Unknown = refl

reset_number : (id : ℕ) (p : Parameter) → decoded_number (reset_by id p) ≡ cond (id_wrong 0x86 p) 7 0
unfolding id_wrong
reset_number id (ReadWrite t) = refl
reset_number id (ReadOnly t) = refl
reset_number id Unknown = refl

valued_number : (id : ℕ) (v : Result ParamValue ValueRefusal) → decoded_number (valued id v) ≡ cond (is_too_short v) 5 (cond (is_nan_value v) 7 0)
unfolding valued
valued_number id (Ok v) = refl
valued_number id (Err ValueRefusal.TooShort) = refl
valued_number id (Err ValueRefusal.NotANumber) = refl

set_number_lem : (id : ℕ) (p : Parameter) (value : List ℕ) → decoded_number (set_by id p value) ≡ cond (id_wrong 0x84 p) 7 (cond (value_reads p value is_too_short) 5 (cond (value_reads p value is_nan_value) 7 0))
unfolding id_wrong
set_number_lem id (ReadWrite t) value = valued_number id (read_of t value)
set_number_lem id (ReadOnly t) value = refl
set_number_lem id Unknown value = refl

-- ---- a command of the list
module _ (s : List ℕ) where
  plain : (needed : ℕ) (d : Decoded) → decoded_number (cond (ltb (length s) needed) (Err TooShort) d) ≡ cond (ltb (length s) needed) 5 (decoded_number d)
  plain needed d = behind (ltb (length s) needed) TooShort d

  keyed : (needed key : ℕ) (d : Decoded)
      → decoded_number (cond (ltb (length s) needed) (Err TooShort) (cond (not (eqb (byte_after s) key)) (Err WrongKey) d))
      ≡ cond (ltb (length s) needed) 5 (cond (not (eqb (byte_after s) key)) 7 (decoded_number d))
  keyed needed key d = behind (ltb (length s) needed) TooShort _ ∙ ap (cond (ltb (length s) needed) 5) (behind (not (eqb (byte_after s) key)) WrongKey d)

  -- from the length on
  abbrev behind_4 : ℕ → ℕ
  behind_4 code =
      cond (shorter (find command_table code) s) 5
      (cond (key_wrong (find command_table code) s) 7
      (cond (id_wrong code (parameter_of (id_of s))) 7
      (cond (eqb code 0x84 && value_reads (parameter_of (id_of s)) (value_part s) is_too_short) 5
      (cond (eqb code 0x84 && value_reads (parameter_of (id_of s)) (value_part s) is_nan_value) 7 0))))

  answers_first : (code : ℕ) → is_in code table_codes ≡ true → decoded_number (listed (find command_table code) s) ≡ behind_4 code
  unfolding listed carried find command_table id_wrong getting setting resetting
  answers_first code h =
      at_code (λ k. decoded_number (listed (find command_table k) s) ≡ behind_4 k) code table_codes h
      (keyed 5 0xA6 _ and plain 4 _ and plain 4 _ and plain 4 _ and plain 6 _ and plain 6 _ and plain 6 _ and plain 5 _ and plain 5 _ and plain 4 _ and plain 4 _ and plain 4 _ and plain 4 _
      and (plain 6 _ ∙ ap (cond (ltb (length s) 6) 5) (get_number_lem (id_of s) (parameter_of (id_of s))))
      and (plain 6 _ ∙ ap (cond (ltb (length s) 6) 5) (set_number_lem (id_of s) (parameter_of (id_of s)) (value_part s)))
      and (plain 6 _ ∙ ap (cond (ltb (length s) 6) 5) (reset_number (id_of s) (parameter_of (id_of s))))
      and keyed 5 0xA7 _ and keyed 5 0xA7 _ and keyed 7 0xA7 _ and plain 4 _ and plain 4 _ and plain 4 _ and plain 4 _ and none)

-- ---- the first check that applies answers
differs : (a b c : Bool) → not (a && b && c) ≡ (not a || not b || not c)
differs true true c = refl
differs true false c = refl
differs false b c = refl

-- the header is not the board's exactly where one of its three parts is not
pub header_check : (kind : Kind) (bid : ℕ) (s : List ℕ) → not (header_is (header_of kind bid) s) ≡ header_differs (header_of kind bid) s
unfolding header_is header_differs
header_check kind bid s = differs (eqb (stid_of s) (board_of kind).stid) (eqb (ivid_of s) 7) (eqb (bid_of s) bid)

module _ (kind : Kind) (bid : ℕ) (startup : Bool) (s : List ℕ) where
  listed_number : decoded_number (cond (not (is_in (code_of s) (board_of kind).codes)) (Err Refusal.CodeNotListed) (listed (find command_table (code_of s)) s))
      ≡ cond (not (is_in (code_of s) (board_of kind).codes)) 4 (behind_4 s (code_of s))
  listed_number =
      cases (is_in (code_of s) (board_of kind).codes)
      (λ h. rw h (answers_first s (code_of s) (has_a_command kind (code_of s) h)))
      (λ h. rw h)

  pub first_check : decoded_number (decode_of kind bid startup s) ≡ first (checks kind bid (mode_alone startup) s)
  unfolding decode_of first checks
  first_check =
      behind (fewer_than_four s) _ _
      ∙ ap (cond (fewer_than_four s) 1)
      (behind startup _ _
      ∙ ap (cond startup 2)
      (behind (not (header_is (header_of kind bid) s)) _ _
      ∙ rw (header_check kind bid s) (ap (cond (header_differs (header_of kind bid) s) 3) listed_number)))
