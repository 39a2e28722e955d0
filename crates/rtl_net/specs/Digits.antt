-- How many digits an integer has.
pub use Rattle.vhdl_numbers.specs.Digits.{places, binary_digits, without_sign, digits_between}
