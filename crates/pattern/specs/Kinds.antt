-- The kinds of tick and their letters, as the table of docs/SPEED.md has them. Characters are their ASCII codes. Assumes
-- nothing: these are definitions.
use Rattle.std.specs.Prelude.{ℕ, List, [], ◌∷◌, Option, None, Some, unwrap_or}
use mathlib.Core.{Bool.cond}
use lib.{Dec.eqb}
use Rattle.pattern.specs.declared.kind.{TickKind.TickKind, RunKind.RunKind}

-- a letter and what it stands for
infix 70 ◌stands_for◌
abbrev pub ◌stands_for◌ : ℕ → RunKind → ℕ × RunKind
letter stands_for kinds = (letter, kinds)

-- p, n, f, h, g, s, o, c, w, m, z
abbrev pub letters : List (ℕ × RunKind)
letters =
    (0x70 stands_for (RunKind.Each TickKind.Plain))
    ∷ (0x6E stands_for (RunKind.Each TickKind.Noop))
    ∷ (0x66 stands_for (RunKind.Each TickKind.OvercurrentState))
    ∷ (0x68 stands_for (RunKind.Each TickKind.Housekeeping))
    ∷ (0x67 stands_for (RunKind.Each TickKind.Get))
    ∷ (0x73 stands_for (RunKind.Each TickKind.Set))
    ∷ (0x6F stands_for (RunKind.Each TickKind.Group))
    ∷ (0x63 stands_for (RunKind.Each TickKind.Overcurrent))
    ∷ (0x77 stands_for (RunKind.Each TickKind.Words))
    ∷ (0x6D stands_for RunKind.Mixed)
    ∷ (0x7A stands_for (RunKind.Each TickKind.NoTick))
    ∷ []

-- what a letter stands for in a list of them
abbrev pub kinds_in : List (ℕ × RunKind) → ℕ → Option RunKind
kinds_in [] letter = None
kinds_in (row ∷ rows) letter = cond (eqb letter row.0) (Some row.1) (kinds_in rows letter)

unfoldable pub kinds_by : ℕ → Option RunKind
kinds_by = kinds_in letters

-- the kinds of a run that a letter names: where it stands for none, plain ticks alone
abbrev pub run_by : ℕ → RunKind
run_by letter = unwrap_or (kinds_by letter) (RunKind.Each TickKind.Plain)

-- the kind of a tick that the kinds of a run name: the mix names a plain one
abbrev pub tick_in : RunKind → TickKind
tick_in (RunKind.Each kind) = kind
tick_in RunKind.Mixed = TickKind.Plain

-- the kind of a tick that a letter names
abbrev pub tick_by : ℕ → TickKind
tick_by letter = tick_in (run_by letter)
