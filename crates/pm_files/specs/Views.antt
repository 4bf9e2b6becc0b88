-- The code's files as files.
use Rattle.std.specs.Prelude.{map, option_map, string_bytes}
use Rattle.pm_types.specs.Views.{view_of}
use Rattle.pm_files.specs.Files.{SavedFile, SavedProgram}
use Rattle.pm_files.specs.declared.file.FileObject.{FileObject}
use Rattle.pm_files.specs.declared.file.FileProgram.{FileProgram}

abbrev pub program_of : FileProgram → SavedProgram
program_of p = record {
  name = option_map string_bytes p.name;
  objective = option_map (λ m. m.rows) p.objective;
  failed = map (λ m. (string_bytes m.0, m.1)) p.failed.items;
}

abbrev pub file_of : FileObject → SavedFile
file_of o = record {
  of = o.of;
  values = map (λ v. (v.0, view_of v.1)) o.values.items;
  stored = o.stored;
  failed = map (λ m. (string_bytes m.0, m.1)) o.failed.items;
  programs = map program_of o.programs.items;
  ignored = map string_bytes o.ignored.items;
}
