-- A page is a buffer and a place, and nothing else. Assumes nothing.
use Prim.Native.Nat.{ℕ}
use mathlib.Core.Path.{◌≡◌, ap}
use mathlib.Core.List.{List}
use Rattle.script.specs.Printing.{Page, page}

abbrev place_in : Page → ℕ
place_in (page held at) = at

abbrev held_in : Page → List ℕ
held_in (page held at) = held

pub place_same : {held held' : List ℕ} {at at' : ℕ} → page held at ≡ page held' at' → at ≡ at'
place_same e = ap place_in e

pub held_same : {held held' : List ℕ} {at at' : ℕ} → page held at ≡ page held' at' → held ≡ held'
held_same e = ap held_in e
