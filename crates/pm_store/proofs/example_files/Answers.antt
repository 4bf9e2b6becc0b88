use Rattle.pm_store.proofs.Examples.{files_are_found, files_are_put, words_name_files}
use Rattle.pm_store.proofs.example_files.Goals as goal

pub returns : goal.returns
returns c = record { found = files_are_found; put = files_are_put; words = words_name_files }
