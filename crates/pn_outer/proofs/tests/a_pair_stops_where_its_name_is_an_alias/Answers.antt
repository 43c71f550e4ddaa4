use Rattle.pn_outer.proofs.tests.a_pair_stops_where_its_name_is_an_alias.Goals as goal

pub outer_pairs-requires-clause-within : goal.outer_pairs-requires-clause-within
outer_pairs-requires-clause-within g c = c.are_in_range.ensures.dependencies c.if-not-are_in_range.false
