use Rattle.pm_books.proofs.write.push_conditions.Goals as goal

pub returns : goal.returns
returns c = rw (c.as_slice.ensures.value, c.in_ok-list.ensures, c.conditions.ensures) at c.push_condition_list.ensures
