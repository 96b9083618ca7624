-- Why 0x50, 0x52, 0x60 and 0x62 show the readings: the reply lays out 122 or 39 words of what the command finds, as
-- they were measured or as its code tells them, and `Measured` and `Battery` of `replies` say where each of them
-- stands. Assumes nothing.
use Prim.Native.Nat.{ℕ, ◌+◌, ◌*◌, ◌%◌, ◌^◌, ◌≤◌, ◌<◌, min}
use mathlib.Core.Path.{◌≡◌, refl, sym, ap, ◌∙◌, subst}
use mathlib.Core.Bool.{true, false, false≢true}
use mathlib.Core.List.{List, [], ◌∷◌, map}
use native.Mathlib.Nat.{mod-eq_of_lt}
use native.Mathlib.Omega.{arith}
use lib.IntN.{pos}
use lib.ListN.{length, get_or, take, drop, length-append, length-take, length-drop, length-map, length-replicate, get_or-map, get_or-append}
use lib.Seq.{get_or-take, length-take-le, take_all}
use mir.Syntax.{w16}
use borrow.Author.Tests.{eqb-true}
use Rattle.laws.proofs.Cases.{cases}
use Rattle.kinds.specs.Kinds.{board_of, is_in, word_room}
use Rattle.kinds.specs.declared.Kind.{Kind}
use Rattle.kinds.specs.declared.Kind.TheVariants.{Distribution, Battery, Integrated}
use Rattle.kinds.proofs.Rooms.{fits}
use Rattle.wire.specs.Numbers.{number, pattern}
use Rattle.wire.specs.Replies.{shown}
use Rattle.wire.proofs.TwosComplement.{pattern_fits}
use Rattle.rounding.specs.Rounding.{nearest, held}
use Rattle.rounding.proofs.Rounding.{held_fits}
use Rattle.temperature.specs.Temperature.{line_at, entry_of, temperature_of}
use Rattle.readings.specs.Readings.{raw_of, none_measured, measured_as, raw_words, engineering_words}
use Rattle.readings.specs.Table.{nearest_units, engineering_of}
use Rattle.readings.specs.Layout.{VIP-CH, POWE, ◌by◌, layout, converted_by, row_at}
use Rattle.readings.specs.Packs.{pack_temperature, word_by, way_at}
use Rattle.readings.specs.declared.apart.Raw.{Raw}
use Rattle.readings.specs.declared.apart.Engineering.{Engineering}
use Rattle.readings.specs.declared.packs.Way.{Way}
use Rattle.readings.specs.declared.packs.Way.TheVariants.{ByRow, ByCurve, AsItIs}
use Rattle.readings.specs.declared.table.Row.{Row}
use Rattle.readings.specs.declared.table.Row.TheVariants.{ChannelPowe}
use Rattle.readings.proofs.Places.{length_layout, converted_at, length_converted}
use Rattle.readings.proofs.PackPlaces.{told_at, length_packs_told}
use Rattle.replies.proofs.Positions.{ChannelWords, length_housekeeping, shown_housekeeping, housekeeping_channels}
use Rattle.replies.proofs.Measured.{measured_at}
use Rattle.replies.proofs.Battery.{length_battery, shown_battery, battery_word_at}
use Rattle.state.specs.Parts.{word_count}
use Rattle.state.specs.declared.parts.Board.{Board}
use Rattle.answers.specs.Answers.{header_of}
use Rattle.board.specs.Tick.{brought_by, risen_of, changed_of, tripped_of}
use Rattle.unit.specs.declared.Machine.{Machine}
use Rattle.unit.specs.Runs.{Sample, after_step3}
use Rattle.changes.specs.Accepted.{accepts_one_of}
use Rattle.changes.specs.NewReadings.{brings}
use Rattle.changes.specs.ReadingsShown.{byte_of, bytes_shown, raw_found, Shows, BatteryShows, ReadingsShown}
use Rattle.changes.proofs.Readings.{Part, as_raw, in_units, Owner, distribution, battery, code_for, words_for, stat_for, bytes_for, has_code, reply_is}

-- ---- the words of a reply
-- how many they are on either board
abbrev count_of : Owner → ℕ
count_of distribution = 122
count_of battery = 39

-- a board whose list has the code has that many
counted : (o : Owner) (kind : Kind) → is_in (code_for o as_raw) (board_of kind).codes ≡ true → (board_of kind).words ≡ count_of o
unfolding is_in
counted distribution Distribution h = refl
counted distribution (Battery abf) h = absurd (false≢true h)
counted distribution (Integrated daughterboard) h = absurd (false≢true h)
counted battery Distribution h = absurd (false≢true h)
counted battery (Battery abf) h = refl
counted battery (Integrated daughterboard) h = absurd (false≢true h)

-- word k as each code shows it
abbrev shown_as : Owner → Part → ℕ → Raw → ℕ
shown_as o as_raw k raw = raw.0 % 2 ^ 16
shown_as distribution in_units k raw = pattern 2 (engineering_of (row_at k) raw).0
shown_as battery in_units k raw = word_by (way_at k) raw % 2 ^ 16

-- an engineering reading is held to 16 bits
two_bytes : (row : Row) (raw : Raw) → pattern 2 (engineering_of row raw).0 < 2 ^ 16
unfolding engineering_of
two_bytes row raw = (pattern_fits w16 (held (nearest_units row raw)) (held_fits (nearest_units row raw))).fits

-- and so is a temperature, and with them any word of 0x62
told_bytes : (way : Way) (raw : Raw) → raw.0 < 2 ^ 16 → word_by way raw < 2 ^ 16
unfolding word_by pack_temperature temperature_of entry_of
told_bytes (ByRow row) raw h = two_bytes row raw
told_bytes ByCurve raw h =
    let line = nearest (line_at (min raw.0 4095)) (10 ^ 22) in
    (pattern_fits w16 (held line) (held_fits line)).fits
told_bytes AsItIs raw h = h

-- the words of a reply are all that its board has, and of each the two bytes that are laid out are those that its code
-- shows
record Laid (o : Owner) (p : Part) (b : Board) : Type 0 where
  all : length (words_for o p b) ≡ count_of o
  each : (k : ℕ) → k < count_of o → get_or (words_for o p b) k 0 % 2 ^ 16 ≡ shown_as o p k (get_or b.measured.words k (raw_of 0))

-- so they are where the readings fill their room: those that count, as they were measured
laid_raw : (o : Owner) (b : Board) → count_of o ≤ word_room → length b.measured.words ≡ word_room → word_count b ≡ count_of o → Laid o as_raw b
unfolding raw_words
laid_raw o b few full n =
    let raws = b.measured.words in
    record {
      all = rw n (length-take-le (count_of o) (raw_words raws) (omega (arith, length-map raws (λ (r : Raw). r.0))));
      each = λ k g. rw n (ap (λ (w : ℕ). w % 2 ^ 16) (get_or-take (count_of o) (raw_words raws) k 0 g ∙ get_or-map (λ (r : Raw). r.0) raws k (raw_of 0)));
    }

-- or as the code tells them
laid : (o : Owner) (p : Part) (b : Board) → length b.measured.words ≡ word_room → is_in (code_for o p) (board_of b.profile.kind).codes ≡ true → Laid o p b
unfolding engineering_words pattern
laid distribution as_raw b full h = laid_raw distribution b (omega arith) full (counted distribution b.profile.kind h)
laid battery as_raw b full h = laid_raw battery b (omega arith) full (counted battery b.profile.kind h)
laid distribution in_units b full h =
    let raws = b.measured.words in
    let f : Engineering → ℕ = λ r. pattern 2 r.0 in
    let converted = converted_by layout raws in
    let l = length_layout in
    let zero : Engineering = record { 0 = pos 0 } in
    record {
      all = length-map converted f ∙ length_converted layout raws (omega arith) ∙ l;
      each = λ k g.
          let e = get_or-map f converted k zero ∙ ap f (converted_at layout raws k (POWE (VIP-CH 31) by ChannelPowe) (raw_of 0) zero (omega arith) (omega arith)) in
          omega (arith, two_bytes (row_at k) (get_or raws k (raw_of 0)));
    }
laid battery in_units b full h =
    let raws = b.measured.words in
    record {
      all = length_packs_told raws full;
      each = λ k g. ap (λ (w : ℕ). w % 2 ^ 16) (told_at raws k (raw_of 0) 0 full g);
    }

-- ---- the readings that a command finds
-- words that came fill the room
measured_room : (words : List ℕ) → length (measured_as words) ≡ word_room
unfolding measured_as
measured_room words =
    let l = length-replicate word_room (raw_of 0) in
    length-append (take word_room (map raw_of words)) (drop (length words) none_measured)
    ∙ omega (arith, length-take word_room (map raw_of words), length-map words raw_of, length-drop (length words) none_measured)

module _ (m : Machine) (i : Sample) (full : length m.board.measured.words ≡ word_room) where
  -- they fill their room, whether words came or not
  still_full : length (after_step3 m i).measured.words ≡ word_room
  unfolding tripped_of changed_of risen_of brought_by
  still_full = cases (brings m i) (λ e. rw e (measured_room i.words)) (λ e. rw e full)

  -- ---- the reply of a tick that accepts one of the codes
  -- its words are laid out
  words_laid : (o : Owner) (p : Part) → accepts_one_of (code_for o p ∷ []) m i ≡ true → Laid o p (after_step3 m i)
  unfolding tripped_of changed_of risen_of
  words_laid o p a = laid o p (after_step3 m i) still_full (has_code m i (code_for o p) a)

  -- on a distribution board
  shows : (p : Part) → accepts_one_of (code_for distribution p ∷ []) m i ≡ true → Shows m i (λ k. shown_as distribution p k (raw_found m i k))
  shows p a =
      let b = after_step3 m i in
      let header = header_of b.profile in
      let code = code_for distribution p in
      let stat = stat_for p b in
      let ws = words_for distribution p b in
      let row = words_laid distribution p a in
      let is : bytes_shown m i ≡ bytes_for distribution p b =
      ap shown (reply_is m i distribution p a) ∙ shown_housekeeping header code stat b.channels.on b.channels.latched ws row.all in
      record {
        bytes = ap length is ∙ length_housekeeping header code stat b.channels.on b.channels.latched ws row.all;
        word = λ k h.
            ap (λ (l : List ℕ). number 2 (drop (byte_of k) l)) is
            ∙ measured_at header code stat b.channels.on b.channels.latched ws row.all k h
            ∙ row.each k h;
        channels = λ o l.
            let c : ChannelWords 16 b.channels.on b.channels.latched (bytes_shown m i) =
            subst (ChannelWords 16 b.channels.on b.channels.latched) (sym is)
            (housekeeping_channels header code stat b.channels.on b.channels.latched ws row.all o l) in
            record { on_low = c.on_low; on_high = c.on_high; latched_low = c.latched_low; latched_high = c.latched_high };
      }

  -- and on a battery board
  battery_shows : (p : Part) (words : ℕ → ℕ) → accepts_one_of (code_for battery p ∷ []) m i ≡ true
      → ((k : ℕ) → shown_as battery p k (raw_found m i k) ≡ words k) → BatteryShows m i words
  battery_shows p words a same =
      let b = after_step3 m i in
      let header = header_of b.profile in
      let code = code_for battery p in
      let stat = stat_for p b in
      let ws = words_for battery p b in
      let row = words_laid battery p a in
      let is : bytes_shown m i ≡ bytes_for battery p b = ap shown (reply_is m i battery p a) ∙ shown_battery header code stat ws row.all in
      record {
        bytes = ap length is ∙ length_battery header code stat ws row.all;
        word = λ k h.
            ap (λ (l : List ℕ). number 2 (drop (6 + 2 * k) l)) is ∙ battery_word_at header code stat ws row.all k h ∙ row.each k h ∙ same k;
      }

-- ---- the words that the command finds
-- words that are not more than the room are its first readings
measured_as_lem : (words : List ℕ) (k : ℕ) → length words ≤ word_room → k < length words → get_or (measured_as words) k (raw_of 0) ≡ raw_of (get_or words k 0)
unfolding measured_as
measured_as_lem words k short h =
    let l = length-map words raw_of in
    rw (take_all word_room (map raw_of words) (omega arith))
    (get_or-append (map raw_of words) (drop (length words) none_measured) (raw_of 0) k (omega arith) ∙ get_or-map raw_of words k 0)

module _ (m : Machine) (i : Sample) where
  brought : brings m i ≡ true → (k : ℕ) → k < word_count m.board → raw_found m i k ≡ raw_of (get_or i.words k 0)
  unfolding tripped_of changed_of risen_of brought_by
  brought e k h =
      let n = eqb-true (length i.words) (word_count m.board) e in
      rw e (measured_as_lem i.words k (omega (arith, fits m.board.profile.kind)) (omega arith))

  stayed : brings m i ≡ false → (after_step3 m i).measured.words ≡ m.board.measured.words
  unfolding tripped_of changed_of risen_of brought_by
  stayed e = rw e

-- the claim
pub readings_shown : (m : Machine) (i : Sample) → ReadingsShown m i
readings_shown m i =
    record {
      brought = brought m i;
      stayed = stayed m i;
      raw = λ full a. shows m i full as_raw a;
      engineering = λ full a. shows m i full in_units a;
      battery_raw = λ full a. battery_shows m i full as_raw _ a (λ k. refl);
      battery_engineering = λ full small a.
          battery_shows m i full in_units _ a (λ k. mod-eq_of_lt (told_bytes (way_at k) (raw_found m i k) (small k)));
    }
