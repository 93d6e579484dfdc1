-- The worked examples hold, M1 to M10 and those of the requests, each in the words of the definitions: one computation tests the whole table.
use mathlib.Core.Path.{◌≡◌, refl}
use mathlib.Core.Bool.{true}
use mathlib.Core.List.{zip_with, flat_map, Memᴰ}
use Rattle.model.specs.Table.{limits, bases, kinds, jumps, counts}
use Rattle.model.specs.Numbers.{some_check, edition_of, numbers_in}
use Rattle.model.specs.Search.{lowest_from}
use Rattle.model.specs.Spelling.{read_groups, number_size}
use Rattle.model.specs.File.{after_count, after_item, next_field, unwritten, read_field, field_size, below_count, from_header, zero_unwritten, in_range, edge_before, ascends, item_start, check_from, read_from}
use Rattle.model.specs.Graph.{lacks, bad_range, wrong_edge, no_return, graph_rules}
use Rattle.model.specs.Walks.{visits, sum, entering, weights}
use Rattle.model.specs.Costs.{total, largest}
use Rattle.model.specs.Layouts.{lowest_free, filled_in, region_of, largest_in, need_of, judge_layout}
use Rattle.model.specs.Interference.{since, occurs}
use Rattle.model.specs.Charges.{outside, outermost, entered, visit_charge, first_loads, second_charge, holds_early, entry_charge, charges}
use Rattle.model.specs.Runs.{held, check_at, cycles, loads}
use Rattle.model.specs.Operations.{read_file, check_problem}
use Rattle.model.specs.Verdicts.{judge_problem, judge_bound, may_follow, past_bound, at_last, judge_walk, judge_run}
use Rattle.model.specs.Decimals.{text, digits_of, decimal}
use Rattle.model.specs.Slips.{line, refusal_line, result_lines}
use Rattle.sound.specs.Decide.{contested_test, early_test}
use Rattle.examples.specs.Problems.{problem, padded}
use Rattle.examples.specs.Claims.{Claim, Means}
use Rattle.examples.specs.Marks.{marks}
use Rattle.examples.specs.Tests.{any, all, some_from, every_from, member, fresh, hands_on, settled, set_is, every_lawful, some_lawful, greatest_is, smaller_is, same, bounds_are, reads_as, passes}
use Rattle.examples.proofs.Passed.{all_at}
use Rattle.examples.proofs.Means.{means}

computed : all passes marks ≡ true
unfolding marks problem padded zip_with flat_map bounds_are reads_as passes text decimal digits_of line refusal_line result_lines any all some_from every_from member
    fresh hands_on settled set_is every_lawful some_lawful greatest_is smaller_is same limits bases kinds jumps counts some_check edition_of numbers_in lowest_from read_groups number_size
    after_count after_item next_field unwritten read_field field_size below_count from_header zero_unwritten in_range edge_before ascends item_start check_from read_from lacks bad_range wrong_edge no_return
    graph_rules visits sum entering weights total largest lowest_free filled_in region_of largest_in need_of judge_layout since occurs outside outermost
    entered visit_charge first_loads second_charge holds_early entry_charge charges held check_at cycles loads read_file check_problem judge_problem judge_bound may_follow past_bound
    at_last judge_walk judge_run contested_test early_test
computed = refl

pub examples : (c : Claim) → Memᴰ c marks → Means c
examples c m = means c (all_at passes marks computed m)
