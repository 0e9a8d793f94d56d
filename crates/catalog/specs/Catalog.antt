-- The nine number systems, by their base, their degree and their constant.
use Rattle.std.proofs.Common.{lit≤}
use Rattle.bases.specs.Bits.{bits}
use Rattle.bases.specs.Residues.{res, residues}
use Rattle.extensions.specs.Extensions.{binomial_extension, trinomial_extension}
use Rattle.numbers.specs.Systems.{Sys}

-- residues modulo 2130706433, 2147483647, 2013265921 and 11
abbrev pub koala_bear : Sys
koala_bear = residues 2130706433 (lit≤ tt)

abbrev pub mersenne_31 : Sys
mersenne_31 = residues 2147483647 (lit≤ tt)

abbrev pub baby_bear : Sys
baby_bear = residues 2013265921 (lit≤ tt)

abbrev pub eleven : Sys
eleven = residues 11 (lit≤ tt)

-- degree 4 over 2130706433, w = 3
abbrev pub system_1 : Sys
system_1 = binomial_extension 3 koala_bear (res 2130706433 (lit≤ tt) 3)

-- degree 8 over 2130706433, w = 3
abbrev pub system_2 : Sys
system_2 = binomial_extension 7 koala_bear (res 2130706433 (lit≤ tt) 3)

-- the trinomial extension over 2130706433
abbrev pub system_3 : Sys
system_3 = trinomial_extension koala_bear

-- degree 2 over 2147483647, w = -1
abbrev pub system_4 : Sys
system_4 = binomial_extension 1 mersenne_31 (res 2147483647 (lit≤ tt) 2147483646)

-- degree 3 over system 4, w = [0, 5]
abbrev pub system_5 : Sys
system_5 = binomial_extension 2 system_4 (res 2147483647 (lit≤ tt) 0, (res 2147483647 (lit≤ tt) 5, tt))

-- degree 5 over 2013265921, w = 31
abbrev pub system_6 : Sys
system_6 = binomial_extension 4 baby_bear (res 2013265921 (lit≤ tt) 31)

-- the trinomial extension over the two elements
abbrev pub system_7 : Sys
system_7 = trinomial_extension bits

-- degree 5 over 11, w = 2
abbrev pub system_8 : Sys
system_8 = binomial_extension 4 eleven (res 11 (lit≤ tt) 2)

-- degree 2 over 11, w = 1
abbrev pub system_9 : Sys
system_9 = binomial_extension 1 eleven (res 11 (lit≤ tt) 1)
