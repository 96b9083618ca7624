-- Each arm has the id in one block of the rows; those of the default have it in a gap between the blocks.
use mathlib.Core.Logic.{⊎_elim}
use mathlib.Core.Path.{refl, ap}
use Prim.Native.Nat.{◌<◌, ◌≤◌}
use Rattle.laws.proofs.Lists.{lt_or_le}
use native.Mathlib.Omega.{arith}
use Rattle.settings.specs.declared.Place.{Place}
use Rattle.settings.specs.Places.{place_of}
use Rattle.settings.proofs.Rows.{int8s, uint8s, int16s, uint16s, uint32s, int8s_read, uint8s_read, int16s_read, uint16s_read, uint32s_read}
use Rattle.settings.proofs.Places.{in_gap}
use Rattle.settings.proofs.place_of.Goals as goal

pub returns-in-4096-to-4116 : goal.returns-in-4096-to-4116
unfolding place_of
returns-in-4096-to-4116 c = rw (int8s c.args.id (omega arith) (omega arith)) (ap Place.Int8 (omega arith))

pub returns-in-8192-to-8194 : goal.returns-in-8192-to-8194
unfolding place_of
returns-in-8192-to-8194 c = rw (uint8s c.args.id (omega arith) (omega arith)) (ap Place.Uint8 (omega arith))

pub returns-in-12288-to-12329 : goal.returns-in-12288-to-12329
unfolding place_of
returns-in-12288-to-12329 c = rw (int16s c.args.id (omega arith) (omega arith)) (ap Place.Int16 (omega arith))

pub returns-in-16384-to-16451 : goal.returns-in-16384-to-16451
unfolding place_of
returns-in-16384-to-16451 c = rw (uint16s c.args.id (omega arith) (omega arith)) (ap Place.Uint16 (omega arith))

pub returns-in-24576-to-24581 : goal.returns-in-24576-to-24581
unfolding place_of
returns-in-24576-to-24581 c = rw (uint32s c.args.id (omega arith) (omega arith)) (ap Place.Uint32 (omega arith))

pub returns-in-6144 : goal.returns-in-6144
unfolding place_of
returns-in-6144 c = rw (int8s_read c.args.id (omega arith) (omega arith))

pub returns-in-10240-to-10243 : goal.returns-in-10240-to-10243
unfolding place_of
returns-in-10240-to-10243 c = rw (uint8s_read c.args.id (omega arith) (omega arith))

pub returns-in-14336-to-14337 : goal.returns-in-14336-to-14337
unfolding place_of
returns-in-14336-to-14337 c = rw (int16s_read c.args.id (omega arith) (omega arith))

pub returns-in-18432-to-18451 : goal.returns-in-18432-to-18451
unfolding place_of
returns-in-18432-to-18451 c = rw (uint16s_read c.args.id (omega arith) (omega arith))

pub returns-in-26624-to-26644 : goal.returns-in-26624-to-26644
unfolding place_of
returns-in-26624-to-26644 c = rw (uint32s_read c.args.id (omega arith) (omega arith))

pub returns-in_default : goal.returns-in_default
returns-in_default c = in_gap c.args.id 0x0 0xFFF (omega arith) (omega arith) refl

pub returns-in_default-2 : goal.returns-in_default-2
returns-in_default-2 c =
    let id = c.args.id in
    ⊎_elim
    (λ (h : id < 0x1800). in_gap id 0x1015 0x17FF (omega arith) (omega arith) refl)
    (λ (h : 0x1800 ≤ id). in_gap id 0x1801 0x1FFF (omega arith) (omega arith) refl)
    (lt_or_le id 0x1800)

pub returns-in_default-3 : goal.returns-in_default-3
returns-in_default-3 c = in_gap c.args.id 0x2003 0x27FF (omega arith) (omega arith) refl

pub returns-in_default-4 : goal.returns-in_default-4
returns-in_default-4 c = in_gap c.args.id 0x2804 0x2FFF (omega arith) (omega arith) refl

pub returns-in_default-5 : goal.returns-in_default-5
returns-in_default-5 c = in_gap c.args.id 0x302A 0x37FF (omega arith) (omega arith) refl

pub returns-in_default-6 : goal.returns-in_default-6
returns-in_default-6 c = in_gap c.args.id 0x3802 0x3FFF (omega arith) (omega arith) refl

pub returns-in_default-7 : goal.returns-in_default-7
returns-in_default-7 c = in_gap c.args.id 0x4044 0x47FF (omega arith) (omega arith) refl

pub returns-in_default-8 : goal.returns-in_default-8
returns-in_default-8 c = in_gap c.args.id 0x4814 0x5FFF (omega arith) (omega arith) refl

pub returns-in_default-9 : goal.returns-in_default-9
returns-in_default-9 c = in_gap c.args.id 0x6006 0x67FF (omega arith) (omega arith) refl

pub returns-in_default-10 : goal.returns-in_default-10
returns-in_default-10 c = in_gap c.args.id 0x6815 0xFFFF (omega arith) (omega arith) refl
