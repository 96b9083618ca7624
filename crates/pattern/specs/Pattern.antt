-- The numbers of the speed pattern, as docs/SPEED.md gives them. Assumes nothing: these are definitions.
use Rattle.std.specs.Prelude.{ℕ, ◌+◌, ◌-◌, ◌*◌, ◌/◌, ◌%◌, cond, ltb}

-- the turns that wake the board
abbrev pub waking : ℕ
waking = 50

-- as many turns as wake the board and one for each tick of the run, of which there are at most 999,999,999
abbrev pub turns_of : ℕ → ℕ
turns_of count = waking + count % 1000000000

-- the tick's place in the pattern; the turns that wake the board have none, and count as 0
abbrev pub place_of : ℕ → ℕ
place_of turn = cond (ltb turn waking) 0 (turn - waking)

-- the number that follows in the row of draws; the turns that wake the board draw none
abbrev pub next_of : ℕ → ℕ → ℕ
next_of turn x = cond (ltb turn waking) x ((x % 2147483648 * 1103515245 + 12345) % 2147483648)

-- the upper 15 bits of a number of 31
abbrev pub draw_of : ℕ → ℕ
draw_of x = x / 65536 % 32768

-- a digest and the number that it takes in, of which 40 bits count
abbrev pub taken_in : ℕ → ℕ → ℕ
taken_in digest v = (digest * 1000003 + v % 1099511627776) % 4294967291

-- four parts of one number, of which 38 bits count in each
abbrev pub sum_of : ℕ → ℕ → ℕ → ℕ → ℕ
sum_of a b c d = a % 274877906944 + b % 274877906944 + c % 274877906944 + d % 274877906944
