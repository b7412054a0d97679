use Rattle.run_ends.proofs.saying.say.Goals as goal

pub returns : goal.returns
returns g c = record {
  result = c.write_all-written.result;
  status_is = c.status_said.ensures;
  cause = c.write_all-written.ensures.cause;
  bytes = c.write_all-written.ensures.written;
}
