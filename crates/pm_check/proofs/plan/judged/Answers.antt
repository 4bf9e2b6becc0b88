use Rattle.pm_check.proofs.plan.judged.Goals as goal

pub returns : goal.returns
returns c = record {
  told = c.in_ok-verdict.verdict;
  judges = c.in_ok-verdict.ensures;
  says = c.in_ok-verdict_line.ensures;
  proves = c.is_yes.ensures;
}
