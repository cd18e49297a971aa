use Rattle.std.proofs.Common.{◌≡◌, ◌<◌, ◌^◌, true, take}
use Rattle.std.specs.List.{list_all}
use Rattle.script_lang.specs.Numbers.{is_digit, written_number}
use Rattle.script_lang.proofs.number.read_number.Given as goal

abbrev pub invariant-loop-b : goal.invariant-loop-b
invariant-loop-b l = record {
  digits : list_all is_digit (take l.b-index l.word) ≡ true;
  value : l.value ≡ written_number (take l.b-index l.word);
  bound : l.value < 10 ^ l.b-index;
}
