-- When the sheet refuses a call, by cases.
use Rattle.std.proofs.Common.{◌≡◌, ℕ, ◌<◌, ◌≤◌, List, length, Some, None, le-ltb, lt-ltb}
use Rattle.numbers.specs.Systems.{Sys}
use Rattle.numbers.specs.declared.refusal.Refusal.TheVariants.{OverLimit, FullSheet, EmptySheet, NoSuchPlace}
use Rattle.reading.specs.declared.calls.Call.TheVariants.{Append, Drop, Replace}
use Rattle.reading.specs.Sheet.{most, refusal}

pub append_taken : (s : Sys) (L : List ℕ) (e : ℕ) → e < s.limit → length L < most → refusal s L (Append e) ≡ None
append_taken s L e h room = rw (lt-ltb e s.limit h, lt-ltb (length L) most room)

pub append_full : (s : Sys) (L : List ℕ) (e : ℕ) → e < s.limit → most ≤ length L → refusal s L (Append e) ≡ Some FullSheet
append_full s L e h full = rw (lt-ltb e s.limit h, le-ltb (length L) most full)

pub append_over : (s : Sys) (L : List ℕ) (e : ℕ) → s.limit ≤ e → refusal s L (Append e) ≡ Some OverLimit
append_over s L e over = rw (le-ltb e s.limit over)

pub drop_taken : (s : Sys) (L : List ℕ) → 0 < length L → refusal s L Drop ≡ None
drop_taken s L some = rw (lt-ltb 0 (length L) some)

pub drop_empty : (s : Sys) (L : List ℕ) → length L ≤ 0 → refusal s L Drop ≡ Some EmptySheet
drop_empty s L none = rw (le-ltb 0 (length L) none)

pub replace_taken : (s : Sys) (L : List ℕ) (i e : ℕ) → e < s.limit → i < length L → refusal s L (Replace i e) ≡ None
replace_taken s L i e h within = rw (lt-ltb e s.limit h, lt-ltb i (length L) within)

pub replace_beyond : (s : Sys) (L : List ℕ) (i e : ℕ) → e < s.limit → length L ≤ i → refusal s L (Replace i e) ≡ Some NoSuchPlace
replace_beyond s L i e h beyond = rw (lt-ltb e s.limit h, le-ltb i (length L) beyond)

pub replace_over : (s : Sys) (L : List ℕ) (i e : ℕ) → s.limit ≤ e → refusal s L (Replace i e) ≡ Some OverLimit
replace_over s L i e over = rw (le-ltb e s.limit over)
