use Rattle.pairs.proofs.movers.are_apart.Goals as goal

pub returns-in-Some-way : goal.returns-in-Some-way
returns-in-Some-way c = λ e. record {
  p = c.in-Some.first;
  q = c.in-Some-way.second;
  first = c.in-Some.is;
  second = c.in-Some-way.is;
  far = c.keep_apart.ensures e;
}
