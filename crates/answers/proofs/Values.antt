-- What a parameter's bytes are, cut at its width. Assumes nothing.
use Prim.Native.Nat.{ℕ, zero, suc, ◌+◌, ◌-◌, ◌/◌, ◌%◌}
use mathlib.Core.List.{List, ◌∷◌}
use mathlib.Core.Path.{◌≡◌, refl, ap}
use native.Mathlib.Nat.{suc-add}
use native.Mathlib.Omega.{arith}
use lib.ListN.{take}
use Rattle.wire.specs.Numbers.{bytes_of}
use Rattle.value.specs.Types.{width}
use Rattle.value.specs.Values.{wire_bytes, value_bytes}
use Rattle.value.specs.declared.ParamValue.{ParamValue}
use Rattle.value.specs.declared.ValueType.{ValueType}
use Rattle.value.proofs.Reading.{width_room}
use Rattle.image.proofs.Writing.{room_value, taken}

-- the first w of more bytes of a number are its w bytes
first_bytes : (w k x : ℕ) → take w (bytes_of (w + k) x) ≡ bytes_of w x
unfolding bytes_of
first_bytes zero k x = refl
first_bytes (suc w) k x = rw (suc-add w k) (ap (λ (l : List ℕ). x % 256 ∷ l) (first_bytes w k (x / 256)))

pub cut_at_width : (t : ValueType) (x : ℕ) → take (width t) (bytes_of 8 x) ≡ bytes_of (width t) x
cut_at_width t x =
    let e : width t + (8 - width t) ≡ 8 = omega (arith, width_room t) in
    rw e at (first_bytes (width t) (8 - width t) x)

pub value_taken : (v : ParamValue) → take (value_bytes v).len (value_bytes v).bytes ≡ wire_bytes v
value_taken v = rw (room_value v) (taken (wire_bytes v))
