-- The page has a word, and so its index is that of one of the words.
use Rattle.std.proofs.Common.{◌<◌, ℕ, length, sym, subst}
use Rattle.database_tests.proofs.databases.watched.revoke_watched.Goals as goal

pub unmap_watched-requires-clause-told : goal.unmap_watched-requires-clause-told
unmap_watched-requires-clause-told g c κs within h left words pieces phase =
    subst (λ (i : ℕ). i < length words) (sym c.new-monitor.ensures) (phase.before.within c.page-watched.result c.index_of.result c.index_of.ensures)
