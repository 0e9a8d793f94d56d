-- The nine systems, and the systems below them, keep the laws of number systems.
use Rattle.std.proofs.Common.{lit≤}
use Rattle.bases.specs.Residues.{res}
use Rattle.bases.specs.BitsLemmas.{bits_lawful}
use Rattle.bases.specs.ResiduesLemmas.{residues_lawful}
use Rattle.extensions.proofs.Lawful.{binomial_lawful, trinomial_lawful}
use Rattle.extensions.proofs.Products.{quadratic_passes, cubic_passes, quartic_passes, quintic_passes, octic_passes}
use Rattle.numbers.specs.Systems.{Lawful}
use Rattle.catalog.specs.Catalog.{koala_bear, mersenne_31, baby_bear, eleven, system_1, system_2, system_3, system_4, system_5, system_6, system_7, system_8, system_9}

pub koala_bear_lawful : Lawful koala_bear
koala_bear_lawful = residues_lawful 2130706433 (lit≤ tt)

pub mersenne_31_lawful : Lawful mersenne_31
mersenne_31_lawful = residues_lawful 2147483647 (lit≤ tt)

pub baby_bear_lawful : Lawful baby_bear
baby_bear_lawful = residues_lawful 2013265921 (lit≤ tt)

pub eleven_lawful : Lawful eleven
eleven_lawful = residues_lawful 11 (lit≤ tt)

pub lawful_1 : Lawful system_1
lawful_1 = binomial_lawful 3 quartic_passes koala_bear koala_bear_lawful (res 2130706433 (lit≤ tt) 3)

pub lawful_2 : Lawful system_2
lawful_2 = binomial_lawful 7 octic_passes koala_bear koala_bear_lawful (res 2130706433 (lit≤ tt) 3)

pub lawful_3 : Lawful system_3
lawful_3 = trinomial_lawful koala_bear koala_bear_lawful

pub lawful_4 : Lawful system_4
lawful_4 = binomial_lawful 1 quadratic_passes mersenne_31 mersenne_31_lawful (res 2147483647 (lit≤ tt) 2147483646)

pub lawful_5 : Lawful system_5
lawful_5 = binomial_lawful 2 cubic_passes system_4 lawful_4 (res 2147483647 (lit≤ tt) 0, (res 2147483647 (lit≤ tt) 5, tt))

pub lawful_6 : Lawful system_6
lawful_6 = binomial_lawful 4 quintic_passes baby_bear baby_bear_lawful (res 2013265921 (lit≤ tt) 31)

pub lawful_7 : Lawful system_7
lawful_7 = trinomial_lawful _ bits_lawful

pub lawful_8 : Lawful system_8
lawful_8 = binomial_lawful 4 quintic_passes eleven eleven_lawful (res 11 (lit≤ tt) 2)

pub lawful_9 : Lawful system_9
lawful_9 = binomial_lawful 1 quadratic_passes eleven eleven_lawful (res 11 (lit≤ tt) 1)
