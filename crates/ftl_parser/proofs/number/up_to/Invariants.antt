use Rattle.ftl_parser.proofs.Names.{◌≡◌, ◌≤◌, length, is_ascii_digit, list_all, digits_value, digits_value_after}
use Rattle.ftl_parser.proofs.number.up_to.Given as goal

-- the digits that are left go on from the value
abbrev pub invariant-loop-byte : goal.invariant-loop-byte
invariant-loop-byte l = record {
  whole : digits_value_after 10 l.value l.rest ≡ digits_value 10 l.text;
  digits : list_all is_ascii_digit l.rest ≡ list_all is_ascii_digit l.text;
  small : l.value ≤ l.most;
}

abbrev pub decreases-loop-byte : goal.decreases-loop-byte
decreases-loop-byte l = length l.rest
