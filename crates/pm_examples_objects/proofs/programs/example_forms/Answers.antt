-- The example is a lemma of Programs.
use Rattle.pm_examples_objects.proofs.ProgramValues.{forms_are_read}
use Rattle.pm_examples_objects.proofs.programs.example_forms.Goals as goal

pub returns : goal.returns
returns c = forms_are_read
