-- Lines worked out: which board and which form they start. Assumes nothing.
use Prim.Native.Nat.{ℕ}
use mathlib.Core.Path.{◌≡◌, refl}
use mathlib.Core.{Bool.true, Bool.false, List.List, List.[], List.◌∷◌, List.◌++◌, List.map}
use Rattle.std.specs.Prelude.{Some, None}
use Rattle.wire.specs.declared.forms.Form.TheVariants.{Raw, Ascii}
use Rattle.hexadecimal.specs.Hex.{between}
use Rattle.kinds.specs.declared.Kind.TheVariants.{Distribution, Battery}
use Rattle.script.specs.Reading.{field_of}
use Rattle.lines.specs.Lines.{separated, profile_of, kind_in, board_in, line_by}
use Rattle.lines.specs.declared.tails.Tail.{Tail}
use Rattle.lines.specs.declared.Asked.{Asked}

-- 01 00000003 00000001: BID, fitted set and forced set
abbrev profile : List ℕ
profile = 48 ∷ 49 ∷ 32 ∷ 48 ∷ 48 ∷ 48 ∷ 48 ∷ 48 ∷ 48 ∷ 48 ∷ 51 ∷ 32 ∷ 48 ∷ 48 ∷ 48 ∷ 48 ∷ 48 ∷ 48 ∷ 48 ∷ 49 ∷ []

-- Q 1s 01 00000003 00000001 o f, with three characters left open
abbrev q : ℕ → ℕ → ℕ → List ℕ
q s o f = (81 ∷ 32 ∷ 49 ∷ s ∷ 32 ∷ []) ++ (profile ++ (32 ∷ o ∷ 32 ∷ f ∷ []))

-- Q 11 .. 1 -, Q 11 .. 0 R, Q 12 .. 1 -, Q 12 .. 2 R; and Q 12 .. 1 A, Q 12 .. 1 r, Q 12 .. R 1: ASCII is not named,
-- and neither is raw by a small letter or before the option
pub boards_worked_out : map board_in (q 49 49 45 ∷ q 49 48 82 ∷ q 50 49 45 ∷ q 50 50 82 ∷ q 50 49 65 ∷ q 50 49 114 ∷ q 50 82 49 ∷ [])
    ≡ Some (record { bid = 1; fitted = 3; forced = 1; kind = Distribution; form = Ascii })
    ∷ Some (record { bid = 1; fitted = 3; forced = 1; kind = Distribution; form = Raw })
    ∷ Some (record { bid = 1; fitted = 3; forced = 1; kind = (Battery true); form = Ascii })
    ∷ Some (record { bid = 1; fitted = 3; forced = 1; kind = (Battery false); form = Raw })
    ∷ None
    ∷ None
    ∷ None
    ∷ []
unfolding board_in kind_in separated profile_of field_of between
boards_worked_out = refl

-- B 01 00000003 00000001
pub b_names_raw : line_by 66 ((66 ∷ 32 ∷ []) ++ profile) Tail.Absent
    ≡ Some (Asked.Start (record { board = record { bid = 1; fitted = 3; forced = 1; kind = Distribution; form = Raw }; stored = None }))
unfolding line_by separated profile_of field_of between
b_names_raw = refl

-- P 01 00000003 00000001 0007 and 268 bytes
pub p_names_raw : line_by 80 ((80 ∷ 32 ∷ []) ++ (profile ++ (32 ∷ 48 ∷ 48 ∷ 48 ∷ 55 ∷ 32 ∷ []))) (Tail.Bytes 268)
    ≡ Some (Asked.Start (record { board = record { bid = 1; fitted = 3; forced = 1; kind = Distribution; form = Raw }; stored = Some 7 }))
unfolding line_by separated profile_of field_of between
p_names_raw = refl
