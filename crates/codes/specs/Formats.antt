-- The constants of both formats are as those of a format are, and how many exponent fields each has.
use Rattle.std.specs.Prelude.{◌≡◌, ◌^◌, refl}
use Rattle.std.proofs.Common.{arith}
use Rattle.codes.specs.Codes.{double_extended, binary64, exponent_bits}
use Rattle.codes.specs.Layout.{IsFormat}

pub double_extended_format : IsFormat double_extended
unfolding double_extended exponent_bits
double_extended_format = record {
  some_bits = omega arith;
  word_bits = omega arith;
  stored_most = omega arith;
  stored_least = omega arith;
  layout = refl;
  fields = refl;
  some_bias = omega arith;
  small_bias = omega arith;
  lowest_is = refl;
  highest_is = refl;
}

pub binary64_format : IsFormat binary64
unfolding binary64 exponent_bits
binary64_format = record {
  some_bits = omega arith;
  word_bits = omega arith;
  stored_most = omega arith;
  stored_least = omega arith;
  layout = refl;
  fields = refl;
  some_bias = omega arith;
  small_bias = omega arith;
  lowest_is = refl;
  highest_is = refl;
}

pub double_extended_fields : 32768 ≡ 2 ^ exponent_bits double_extended
unfolding double_extended exponent_bits
double_extended_fields = refl

pub binary64_fields : 2048 ≡ 2 ^ exponent_bits binary64
unfolding binary64 exponent_bits
binary64_fields = refl
