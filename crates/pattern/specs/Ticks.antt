-- What a tick of each kind brings, as the table of docs/SPEED.md has it; r is what was drawn for the tick. Assumes
-- nothing: these are definitions.
use Rattle.std.specs.Prelude.{ℕ, ◌+◌, ◌-◌, ◌*◌, ◌/◌, ◌%◌, Option, None, Some}
use Rattle.std.specs.List.{range_with_len}
use mathlib.Core.{Bool.cond, List.List, List.[], List.◌∷◌, List.◌++◌}
use lib.{Dec.ltb, Dec.eqb, IntN.pos, ListN.length, ListN.get_or, ListN.take, ListN.drop, ListN.set}
use Rattle.kinds.specs.Kinds.{board_of, word_room}
use Rattle.kinds.specs.declared.Kind.TheVariants.{Distribution}
use Rattle.pattern.specs.{Pattern.waking, Pattern.next_of, Pattern.draw_of, declared.ticks.Transfer.Transfer}
use Rattle.pattern.specs.declared.kind.{TickKind.TickKind, RunKind.RunKind}
use Rattle.pattern.specs.declared.kind.TickKind.TheVariants.{Plain, Noop, OvercurrentState, Housekeeping, Get, Set, Group, Overcurrent, Words}
use Rattle.pattern.specs.declared.kind.RunKind.TheVariants.{Each, Mixed}
use Rattle.pattern.specs.declared.ticks.Brought.{Brought}

-- the mix: pnpgpfpspopwphpc
abbrev pub mix : List TickKind
mix = Plain ∷ Noop ∷ Plain ∷ Get ∷ Plain ∷ OvercurrentState ∷ Plain ∷ Set ∷ Plain ∷ Group ∷ Plain ∷ Words ∷ Plain ∷ Housekeeping ∷ Plain ∷ Overcurrent ∷ []

-- the kind of tick i of a mixed run
abbrev pub mixed_of : ℕ → TickKind
mixed_of i = get_or mix (i % 16) Plain

-- the kind of tick i of a run
abbrev pub kind_in : RunKind → ℕ → TickKind
kind_in (Each kind) i = kind
kind_in Mixed i = mixed_of i

-- the kind of a turn: waking turns are plain, and a mixed run goes by the mix from its first tick on
abbrev pub kind_of : RunKind → ℕ → TickKind
kind_of kinds turn = cond (ltb turn waking) Plain (kind_in kinds (turn - waking))

-- overcurrent names a set of channels, the lower 16 again as the upper 16
abbrev pub named_of : TickKind → ℕ → ℕ
named_of Overcurrent r = r * 65537
named_of _ r = 0

-- a transfer to the distribution board: the head with a code, and what is behind it
abbrev to : ℕ → List ℕ → List ℕ
to code behind = (board_of Distribution).stid ∷ 0x07 ∷ code ∷ 0x01 ∷ behind

-- a draw as two bytes, the lower first, before others
abbrev two : ℕ → List ℕ → List ℕ
two r behind = (r % 256) ∷ (r / 256) ∷ behind

-- the bytes that a tick sends, where it brings a transfer
abbrev pub transfer_of : TickKind → ℕ → Option (List ℕ)
transfer_of Noop r = Some (to 0x02 [])
transfer_of OvercurrentState r = Some (to 0x42 [])
transfer_of Housekeeping r = Some (to 0x50 [])
transfer_of Get r = Some (to 0x82 ((r % 68) ∷ 0x40 ∷ []))
transfer_of Set r = Some (to 0x84 ((1 + r % 64) ∷ 0x40 ∷ two r []))
transfer_of Group r = Some (to (cond (eqb (r % 2) 0) 0x10 0x14) (two r (two r [])))
transfer_of _ r = None

-- the eight bytes of a transfer with a code and four bytes behind its head
abbrev pub framed_of : ℕ → ℕ → List ℕ → Transfer
framed_of n code behind = record { length = n; bytes = to code behind }

-- a transfer of at most eight bytes, and 0 behind it
abbrev pub eight_zeros : List ℕ
eight_zeros = 0 ∷ 0 ∷ 0 ∷ 0 ∷ 0 ∷ 0 ∷ 0 ∷ 0 ∷ []

abbrev pub sent_of : List ℕ → Transfer
sent_of s = record { length = length s; bytes = s ++ drop (length s) eight_zeros }

-- one that is there
abbrev pub laid_of : Option (List ℕ) → Option Transfer
laid_of None = None
laid_of (Some s) = Some (sent_of s)

-- what the tick of a kind brings where number x of the row was drawn for it
abbrev pub bringing : TickKind → ℕ → Brought
bringing kind x = record { x = x; named = named_of kind (draw_of x); drawn = draw_of x; rail = pos (15000 + draw_of x % 1000); kind = kind; transfer = laid_of (transfer_of kind (draw_of x)) }

-- what a turn brings behind number x of the row
abbrev pub brought_of : RunKind → ℕ → ℕ → Brought
brought_of kinds turn x = bringing (kind_of kinds turn) (next_of turn x)

-- how many words the distribution board has
abbrev pub word_count : ℕ
word_count = (board_of Distribution).words

-- the room for words at first, each its own place
abbrev pub words_first : List ℕ
words_first = range_with_len 0 word_room

-- before a tick with words one of them becomes the draw
abbrev pub changed_of : TickKind → ℕ → List ℕ → List ℕ
changed_of Words r words = set words (r % word_count) r
changed_of _ r words = words

-- and all that the board has are lent, else none
abbrev pub lent_of : TickKind → List ℕ → List ℕ
lent_of Words words = take word_count words
lent_of _ words = []
