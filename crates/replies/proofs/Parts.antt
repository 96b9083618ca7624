-- A long reply is the six bytes that each of them starts with, and then one row of words, or the id and a value.
-- Assumes nothing.
use Prim.Native.Nat.{ℕ, ◌≤◌}
use mathlib.Core.Bool.{Bool, true, false}
use mathlib.Core.List.{List, [], ◌∷◌, ◌++◌, append_assoc}
use mathlib.Core.Path.{◌≡◌, refl, sym, ap, ◌∙◌}
use native.Mathlib.Omega.{arith}
use lib.ListN.{length, get_or, take, drop, length-take}
use lib.Seq.{take_all}
use Rattle.laws.proofs.Lists.{drop_two, drop_three}
use Rattle.wire.specs.Numbers.{bytes_of}
use Rattle.wire.specs.Replies.{Field, laid_out, words, reply_of, after}
use Rattle.wire.proofs.Room.{after_reply_of}
use Rattle.wire.proofs.Rows.{laid_out_append, laid_out_words, words_append}
use Rattle.command.specs.declared.Header.{Header}
use Rattle.replies.specs.Layouts.{head, reserved, word_fields, channel_words, faults_reply, housekeeping_reply, parameter_reply, abf_byte, abf_reply, battery_reply}

-- ---- rows of words behind each other are one row

module _ (xs vs ws : List ℕ) where
  one_row : xs ++ words vs ++ words ws ≡ xs ++ words (vs ++ ws)
  one_row = append_assoc xs (words vs) (words ws) ∙ ap (λ (l : List ℕ). xs ++ l) (sym (words_append vs ws))

  pub after_words : after (reply_of (xs ++ words vs)) (words ws) ≡ reply_of (xs ++ words (vs ++ ws))
  after_words = after_reply_of (xs ++ words vs) (words ws) ∙ ap reply_of one_row

-- the same row, the same reply
pub same_row : (xs : List ℕ) {vs ws : List ℕ} → vs ≡ ws → reply_of (xs ++ words vs) ≡ reply_of (xs ++ words ws)
same_row xs e = ap (λ (l : List ℕ). reply_of (xs ++ words l)) e

-- fields that are words, behind other fields
words_behind : (fs : List Field) (ws : List ℕ) → laid_out (fs ++ word_fields ws) ≡ laid_out fs ++ words ws
words_behind fs ws = laid_out_append fs (word_fields ws) ∙ ap (λ (l : List ℕ). laid_out fs ++ l) (laid_out_words ws)

two_rows : (fs : List Field) (vs ws : List ℕ) → laid_out (fs ++ word_fields vs ++ word_fields ws) ≡ laid_out fs ++ words (vs ++ ws)
two_rows fs vs ws =
    words_behind (fs ++ word_fields vs) ws ∙ ap (λ (l : List ℕ). l ++ words ws) (words_behind fs vs) ∙ one_row (laid_out fs) vs ws

three_rows : (fs : List Field) (us vs ws : List ℕ)
    → laid_out (fs ++ word_fields us ++ word_fields vs ++ word_fields ws) ≡ laid_out fs ++ words (us ++ vs ++ ws)
three_rows fs us vs ws =
    words_behind (fs ++ word_fields us ++ word_fields vs) ws
    ∙ ap (λ (l : List ℕ). l ++ words ws) (two_rows fs us vs)
    ∙ one_row (laid_out fs) (us ++ vs) ws

-- those that count, cut once more where they end
pub take_again : (n : ℕ) (ws : List ℕ) → take n (take n ws) ≡ take n ws
take_again n ws = take_all n (take n ws) (omega (arith, length-take n ws))

-- a row whose first five are told one by one
pub first_five : (ws : List ℕ) → 5 ≤ length ws → ws ≡ get_or ws 0 0 ∷ get_or ws 1 0 ∷ get_or ws 2 0 ∷ get_or ws 3 0 ∷ get_or ws 4 0 ∷ drop 5 ws
first_five ws h =
    drop_three ws 0 (omega arith) ∙ ap (λ (l : List ℕ). get_or ws 0 0 ∷ get_or ws 1 0 ∷ get_or ws 2 0 ∷ l) (drop_two ws 3 (omega arith))

-- ---- the long replies

module _ (board : Header) (code stat : ℕ) where
  abbrev pub start : List ℕ
  start = laid_out (head board code stat ++ reserved)

  module _ (on latched : ℕ) where
    pub faults_row : (counts : List ℕ) → faults_reply board code stat on latched counts ≡ start ++ words (channel_words on latched ++ counts)
    unfolding faults_reply
    faults_row counts = two_rows (head board code stat ++ reserved) (channel_words on latched) counts

    pub housekeeping_row_lem : (ws : List ℕ)
        → housekeeping_reply board code stat on latched ws ≡ start ++ words (take 5 ws ++ channel_words on latched ++ drop 5 ws)
    unfolding housekeeping_reply
    housekeeping_row_lem ws = three_rows (head board code stat ++ reserved) (take 5 ws) (channel_words on latched) (drop 5 ws)

  pub parameter_parts : (id : ℕ) (value : List ℕ) → parameter_reply board code stat id value ≡ start ++ bytes_of 2 id ++ value
  unfolding parameter_reply laid_out bytes_of
  parameter_parts id value = refl

  pub abf_parts : (placed : Bool) → abf_reply board code stat placed ≡ start ++ (abf_byte placed ∷ abf_byte placed ∷ [])
  unfolding abf_reply laid_out bytes_of
  abf_parts true = refl
  abf_parts false = refl

  pub battery_row : (ws : List ℕ) → battery_reply board code stat ws ≡ start ++ words ws
  unfolding battery_reply
  battery_row ws = words_behind (head board code stat ++ reserved) ws
