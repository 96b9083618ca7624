-- A run and a tick that are named by a letter bring, change and lend what docs/SPEED.md has under that letter; one that
-- it does not have brings the rail alone. Characters are their ASCII codes. Assumes nothing.
use Rattle.std.proofs.Common.{◌≡◌, ℕ, ◌+◌, ◌*◌, ◌-◌, ◌/◌, ◌%◌, List, [], ◌∷◌, None, Some, cond, eqb, ltb, get_or, take, set, ◌<◌, ap, refl, arith}
use Rattle.std.proofs.lemmas.List.{get_or-map}
use Rattle.std.proofs.lemmas.Grind.{common_steps}
use Rattle.kinds.specs.Kinds.{board_of}
use Rattle.kinds.specs.declared.Kind.TheVariants.{Distribution}
use Rattle.pattern.specs.Pattern.{waking, next_of}
use Rattle.pattern.specs.Kinds.{kinds_by}
use Rattle.pattern.specs.Ticks.{kind_of, mixed_of, named_of, transfer_of, bringing, brought_of, changed_of, lent_of, word_count}
use Rattle.pattern.specs.declared.kind.TickKind.TheVariants.{Plain}
use Rattle.pattern.specs.declared.kind.{TickKind.TickKind, RunKind.RunKind}
use Rattle.pattern.specs.contracts.names.RunKindNamesRun.TheImpl as kinds_run
use Rattle.pattern.specs.contracts.names.TickKindNamesTick.TheImpl as kind_tick
use Rattle.pattern.specs.contracts.names.U8NamesRun.TheImpl as run
use Rattle.pattern.specs.contracts.names.U8NamesTick.TheImpl as tick

-- kinds name themselves
pub run_itself : (kinds : RunKind) → kinds_run.ghosts.kinds kinds ≡ kinds
run_itself kinds = refl

pub tick_itself : (kind : TickKind) → kind_tick.ghosts.kind kind ≡ kind
tick_itself kind = refl

-- pnpgpfpspopwphpc
abbrev pub mix : List ℕ
mix = 112 ∷ 110 ∷ 112 ∷ 103 ∷ 112 ∷ 102 ∷ 112 ∷ 115 ∷ 112 ∷ 111 ∷ 112 ∷ 119 ∷ 112 ∷ 104 ∷ 112 ∷ 99 ∷ []

-- the letter of a turn's tick: waking turns are plain (p), and a mixed run (m) goes by the mix from its first tick on
abbrev pub letter_of : ℕ → ℕ → ℕ
letter_of letter turn = cond (ltb turn waking) 112 (cond (eqb letter 109) (get_or mix ((turn - waking) % 16) 0) letter)

-- a transfer to the distribution board, and a draw as two bytes
abbrev pub to : ℕ → List ℕ → List ℕ
to code behind = (board_of Distribution).stid ∷ 0x07 ∷ code ∷ 0x01 ∷ behind

abbrev pub two : ℕ → List ℕ → List ℕ
two r behind = (r % 256) ∷ (r / 256) ∷ behind

-- the mix, letter by letter
pub mixed_by : (i : ℕ) → mixed_of i ≡ tick.ghosts.kind (get_or mix (i % 16) 0)
unfolding kinds_by
mixed_by i = let h : i % 16 < 16 = omega arith in get_or-map tick.ghosts.kind mix (i % 16) 0 Plain h

pub kind_by : (letter turn : ℕ) → kind_of (run.ghosts.kinds letter) turn ≡ tick.ghosts.kind (letter_of letter turn)
unfolding kinds_by
kind_by letter turn = grind (arith, common_steps, mixed_by)

pub brought_by : (letter turn x : ℕ) → brought_of (run.ghosts.kinds letter) turn x ≡ bringing (tick.ghosts.kind (letter_of letter turn)) (next_of turn x)
brought_by letter turn x = ap (λ kind. bringing kind (next_of turn x)) (kind_by letter turn)

-- c names channels
pub named_by : (letter r : ℕ) → named_of (tick.ghosts.kind letter) r ≡ cond (eqb letter 99) (r * 65537) 0
unfolding kinds_by
named_by letter r = grind (arith, common_steps)

-- n, f, h, g, s and o bring a transfer
pub transfer_by : (letter r : ℕ) → transfer_of (tick.ghosts.kind letter) r ≡
    cond (eqb letter 110) (Some (to 0x02 []))
    (cond (eqb letter 102) (Some (to 0x42 []))
    (cond (eqb letter 104) (Some (to 0x50 []))
    (cond (eqb letter 103) (Some (to 0x82 ((r % 68) ∷ 0x40 ∷ [])))
    (cond (eqb letter 115) (Some (to 0x84 ((1 + r % 64) ∷ 0x40 ∷ two r [])))
    (cond (eqb letter 111) (Some (to (cond (eqb (r % 2) 0) 0x10 0x14) (two r (two r []))))
    None)))))
unfolding kinds_by
transfer_by letter r = grind (arith, common_steps)

-- w changes and lends words
pub changed_by : (letter r : ℕ) (words : List ℕ) → changed_of (tick.ghosts.kind letter) r words ≡ cond (eqb letter 119) (set words (r % word_count) r) words
unfolding kinds_by
changed_by letter r words = grind (arith, common_steps)

pub lent_by : (letter : ℕ) (words : List ℕ) → lent_of (tick.ghosts.kind letter) words ≡ cond (eqb letter 119) (take word_count words) []
unfolding kinds_by
lent_by letter words = grind (arith, common_steps)
