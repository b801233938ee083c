-- Each row computes.
use Rattle.std.proofs.Common.{refl}
use Rattle.std.specs.Fmt.{digits}
use Rattle.csv.specs.Machine.{next_record}
use Rattle.csv.specs.Reading.{strip_bom, records_from}
use Rattle.model.proofs.worked.rows_of_holdings.Goals as goal

pub returns-clause-lawful_holdings : goal.returns-clause-lawful_holdings
unfolding digits next_record strip_bom records_from
returns-clause-lawful_holdings c = refl

pub returns-clause-unlawful_holdings : goal.returns-clause-unlawful_holdings
unfolding digits next_record strip_bom records_from
returns-clause-unlawful_holdings c = refl

pub returns-clause-places_under_sets : goal.returns-clause-places_under_sets
unfolding digits next_record strip_bom records_from
returns-clause-places_under_sets c = refl

pub returns-clause-longest_lawful_chain : goal.returns-clause-longest_lawful_chain
unfolding digits next_record strip_bom records_from
returns-clause-longest_lawful_chain c = refl

pub returns-clause-unlawful_among_others : goal.returns-clause-unlawful_among_others
unfolding digits next_record strip_bom records_from
returns-clause-unlawful_among_others c = refl

pub returns-clause-order_of_places : goal.returns-clause-order_of_places
unfolding digits next_record strip_bom records_from
returns-clause-order_of_places c = refl

pub returns-clause-same_places : goal.returns-clause-same_places
unfolding digits next_record strip_bom records_from
returns-clause-same_places c = refl
