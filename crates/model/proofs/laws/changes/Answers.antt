-- The laws of page tables.
use Rattle.model.proofs.TableChanges.{changes_say, changes_tell_each_once, changes_miss_no_page, changes_are_enough, access_changes_no_table, tables_follow, tables_follow_from_start, revoked_is_in_no_table}
use Rattle.model.proofs.laws.changes.Goals as goal

pub returns-clause-changes_say : goal.returns-clause-changes_say
returns-clause-changes_say c = changes_say

pub returns-clause-changes_tell_each_once : goal.returns-clause-changes_tell_each_once
returns-clause-changes_tell_each_once c = changes_tell_each_once

pub returns-clause-changes_miss_no_page : goal.returns-clause-changes_miss_no_page
returns-clause-changes_miss_no_page c = changes_miss_no_page

pub returns-clause-changes_are_enough : goal.returns-clause-changes_are_enough
returns-clause-changes_are_enough c = changes_are_enough

pub returns-clause-access_changes_no_table : goal.returns-clause-access_changes_no_table
returns-clause-access_changes_no_table c = access_changes_no_table

pub returns-clause-tables_follow : goal.returns-clause-tables_follow
returns-clause-tables_follow c = tables_follow

pub returns-clause-tables_follow_from_start : goal.returns-clause-tables_follow_from_start
returns-clause-tables_follow_from_start c = tables_follow_from_start

pub returns-clause-revoked_is_in_no_table : goal.returns-clause-revoked_is_in_no_table
returns-clause-revoked_is_in_no_table c = revoked_is_in_no_table
