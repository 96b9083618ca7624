-- A byte and a word count in a digest as the numbers that they are, so that bytes and words are taken in as numbers.
-- Assumes nothing.
use Rattle.std.proofs.Common.{◌≡◌, ℕ, List, refl}
use Rattle.pattern.specs.Digest.{all_taken_by, all_taken}
use Rattle.pattern.specs.contracts.digest.U8Number.TheImpl as byte
use Rattle.pattern.specs.contracts.digest.U16Number.TheImpl as word

-- bytes, by what number the code says that a byte counts as
pub bytes_taken : (digest : ℕ) (bytes : List ℕ) → all_taken_by byte.ghosts.number digest bytes ≡ all_taken digest bytes
bytes_taken digest bytes = refl

-- words likewise
pub words_taken : (digest : ℕ) (words : List ℕ) → all_taken_by word.ghosts.number digest words ≡ all_taken digest words
words_taken digest words = refl
