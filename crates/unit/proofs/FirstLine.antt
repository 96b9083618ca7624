-- A classroom's first line, typed by hand to a board that was just started, with no switch before it. Assumes nothing.
use Prim.Native.Nat.{ℕ}
use mathlib.Core.Path.{◌≡◌, refl, ap, ◌∙◌}
use mathlib.Core.Bool.{Bool, true}
use Rattle.std.specs.Prelude.{Ok}
use mathlib.Core.List.{List, [], ◌∷◌}
use Rattle.memory.specs.Memory.{Store}
use Rattle.wire.specs.declared.forms.Form.{Form}
use Rattle.wire.specs.declared.forms.Form.TheVariants.{Raw, Ascii}
use Rattle.hexadecimal.specs.Hex.{between, pair_of, payload_of}
use Rattle.state.specs.Parts.{distribution_board, battery_board, naming_raw}
use Rattle.state.specs.Start.{keeps_the_rules}
use Rattle.state.specs.declared.parts.Profile.{Profile}
use Rattle.frames.specs.Frames.{frame_of}
use Rattle.reading.specs.Lines.{LineAnswer, part, same, switch_of, line_of, line_held, command_line, ascii_line, command_held}
use Rattle.reading.specs.declared.Line.TheVariants.{Command}
use Rattle.unit.specs.declared.Machine.{Machine}
use Rattle.unit.specs.Machine.{begun_of, heard_of}
use Rattle.unit.proofs.Laws.{started_in_the_profiles_form}

-- <cmd>11 07 02 01</cmd>
abbrev typed_by_hand : List ℕ
typed_by_hand = 60 ∷ 99 ∷ 109 ∷ 100 ∷ 62 ∷ 49 ∷ 49 ∷ 32 ∷ 48 ∷ 55 ∷ 32 ∷ 48 ∷ 50 ∷ 32 ∷ 48 ∷ 49 ∷ 60 ∷ 47 ∷ 99 ∷ 109 ∷ 100 ∷ 62 ∷ []

-- in ASCII form it is the command 11 07 02 01, in a scratch buffer of four bytes; in raw form it is its characters
in_ascii : line_of Ascii typed_by_hand 4 ≡ Ok (Command 0 4 22)
unfolding line_of frame_of switch_of same part command_line ascii_line payload_of pair_of between
in_ascii = refl

in_raw : line_of Raw typed_by_hand 4 ≡ Ok (Command 5 16 22)
unfolding line_of frame_of switch_of same part command_line
in_raw = refl

pub spells : (a b c d : ℕ) → line_held Ascii typed_by_hand (a ∷ b ∷ c ∷ d ∷ []) ≡ 0x11 ∷ 0x07 ∷ 0x02 ∷ 0x01 ∷ []
unfolding line_held frame_of switch_of same part command_held payload_of pair_of between
spells a b c d = refl

module _ (there : Machine) (store : Store) where
  heard_after_start : (p : Profile) (line : LineAnswer) → keeps_the_rules p store ≡ true → line_of p.form typed_by_hand 4 ≡ line → (heard_of typed_by_hand 4 (begun_of there p store).machine).line ≡ line
  unfolding heard_of
  heard_after_start p line kept e = ap (λ (form : Form). line_of form typed_by_hand 4) (started_in_the_profiles_form there p store kept) ∙ e

  -- a new profile of either board hears the command
  pub by_a_distribution_board : (bid fitted forced : ℕ) → keeps_the_rules (distribution_board bid fitted forced) store ≡ true
      → (heard_of typed_by_hand 4 (begun_of there (distribution_board bid fitted forced) store).machine).line ≡ Ok (Command 0 4 22)
  by_a_distribution_board bid fitted forced kept = heard_after_start (distribution_board bid fitted forced) (Ok (Command 0 4 22)) kept in_ascii

  pub by_a_battery_board : (bid : ℕ) (abf : Bool) → keeps_the_rules (battery_board bid abf) store ≡ true
      → (heard_of typed_by_hand 4 (begun_of there (battery_board bid abf) store).machine).line ≡ Ok (Command 0 4 22)
  by_a_battery_board bid abf kept = heard_after_start (battery_board bid abf) (Ok (Command 0 4 22)) kept in_ascii

  -- one that names raw hears the characters between the tags
  pub in_raw_where_named : (p : Profile) → keeps_the_rules (naming_raw p) store ≡ true
      → (heard_of typed_by_hand 4 (begun_of there (naming_raw p) store).machine).line ≡ Ok (Command 5 16 22)
  in_raw_where_named p kept = heard_after_start (naming_raw p) (Ok (Command 5 16 22)) kept in_raw
