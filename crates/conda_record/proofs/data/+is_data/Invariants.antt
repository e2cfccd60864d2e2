use Rattle.std.proofs.Common.{◌≡◌, drop, is_some}
use Rattle.json.specs.Value.{items_view, members_view}
use Rattle.serde_json.specs.Data.{no_members}
use Rattle.serde_json.specs.Read.{of_items, of_members}
use Rattle.conda_record.proofs.data.+is_data.Given as goal

-- whether all elements are data is whether those that are left are
abbrev pub invariant-are_items-loop-item : goal.invariant-are_items-loop-item
invariant-are_items-loop-item l = is_some (of_items (items_view l.item-items)) ≡ is_some (of_items (items_view (drop l.item-index l.item-items)))

-- whether all members are data is whether those that are left are
abbrev pub invariant-are_members-loop-member : goal.invariant-are_members-loop-member
invariant-are_members-loop-member l = is_some (of_members (members_view l.member-items) no_members) ≡ is_some (of_members (members_view (drop l.member-index l.member-items)) no_members)
