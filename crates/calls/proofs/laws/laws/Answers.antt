use Rattle.calls.proofs.Called.{lays_out_value}
use Rattle.calls.proofs.Emitted.{emits_value}
use Rattle.calls.proofs.Encodable.{value_encodable}
use Rattle.calls.proofs.ReadBack.{parse_complete, one_value}
use Rattle.calls.proofs.Sound.{parse_sound}
use Rattle.calls.proofs.Stacked.{machine_tells}
use Rattle.calls.proofs.laws.laws.Goals as goal

pub returns : goal.returns
returns c =
    record {
      parse_sound = parse_sound;
      parse_complete = parse_complete;
      one_value = one_value;
      machine_tells = machine_tells;
      emits_value = emits_value;
      value_encodable = value_encodable;
      lays_out_value = lays_out_value;
    }
