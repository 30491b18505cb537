use Rattle.plan.proofs.Claimed.{decided, one_answer, one_file, write_back}
use Rattle.plan.proofs.Readback.{encoded_plan}
use Rattle.plan.proofs.format.format_stands.Goals as goal

pub returns : goal.returns
returns c = record {
  decided = decided;
  one_answer = one_answer;
  read_back = encoded_plan;
  write_back = write_back;
  one_file = one_file;
}
