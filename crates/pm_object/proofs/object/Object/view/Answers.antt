use Rattle.std.proofs.Common.{sym, ◌∙◌}
use Rattle.pm_object.proofs.Viewing.{is_view}
use Rattle.pm_object.proofs.object.Object.view.Goals as goal

pub new-requires-clause-view : goal.new-requires-clause-view
new-requires-clause-view c = is_view c.args.self.now.state c.args.sub c.args.kind.now c.in-Some.cols c.cols.ensures.formed (record { cols = sym c.cols.ensures.value ∙ c.in-Some.is; sources = c.requires.sources; in_use = c.requires.in_use })
