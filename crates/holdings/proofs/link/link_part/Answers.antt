-- The new mapping of one more transfer is in the tree of its frame, if that is of the part.
use Rattle.std.proofs.Common.{arith, ◌≡◌, ◌<◌, ◌≤◌, ◌+◌, ◌-◌, ◌∷◌, [], ℕ, List, length, true, false, sym, ap, ◌∙◌, subst, take, if◌then◌else◌}
use Rattle.std.specs.Option.{option_to_list}
use Rattle.holdings.specs.declared.link.Link.{Link}
use Rattle.holdings.specs.Inner.Derivation.{stands_in}
use Rattle.holdings.specs.Inner.Links.{AreLinked, counted_from, is_between, links_between, links_of}
use Rattle.holdings.proofs.Links.OneMore.{frame, source, target, one_more, no_more, read}
use Rattle.holdings.proofs.Links.Parts.{between_append, between_from, between_outside}
use Rattle.holdings.proofs.link.link_part.Goals.{After-index-part-frame, in-Some+then-frame-start+then-frame-start-2+in_ok-derive, in-Some+else-frame-start, else-frame-start-via-then-frame-start+else-frame-start-2, else-frame-start-via-else-frame-start, in_default}
use Rattle.holdings.proofs.link.link_part.Goals as goal

-- the link is the one of the transfer, and it is of the part
one_here : (start count : ℕ) (l : Link) (ls : List Link) → ls ≡ l ∷ [] → start ≤ l.frame → l.frame - start < count → links_between start count ls ≡ counted_from start l ∷ []
one_here start count l ls is low high =
    ap (links_between start count) is ∙ ap (λ b. if b then counted_from start l ∷ [] else []) (between_from start count l low (omega (arith, low, high)))

none_here : (start count : ℕ) (l : Link) (ls : List Link) → ls ≡ l ∷ [] → is_between start count l ≡ false → links_between start count ls ≡ []
none_here start count l ls is out = ap (links_between start count) is ∙ ap (λ b. if b then counted_from start l ∷ [] else []) out

pub derive-requires-clause-origin : goal.derive-requires-clause-origin
derive-requires-clause-origin c =
    let s = c.args.shards.now in let ts = c.args.transfers.now in let i = c.loop-transfer.transfer-index in let old = c.args.part.now in let mid = c.loop-transfer.part in let l = c.in-Some.link in
    let start = c.args.start in
    let some = links_between start (length old) in
    let linked = c.loop-transfer.invariant in
    let here = one_here start (length old) l _ (sym c.new_link.ensures ∙ ap option_to_list c.in-Some.is) (omega (arith, c.if-frame-start.true)) (omega (arith, c.if-frame-start-2.true, linked.count)) in
    let there = frame some (between_append start (length old)) s ts i _ c.loop-transfer-test.true old c.requires.linkable mid linked (counted_from start l) here in
    subst (λ os. stands_in os l.source ≡ true) (read mid (l.frame - start) c.index-part-frame.result there c.index-part-frame.is)
    (source some (between_append start (length old)) s ts i _ c.loop-transfer-test.true old c.requires.linkable mid linked (counted_from start l) here)

pub derive-requires-clause-new : goal.derive-requires-clause-new
derive-requires-clause-new c =
    let s = c.args.shards.now in let ts = c.args.transfers.now in let i = c.loop-transfer.transfer-index in let old = c.args.part.now in let mid = c.loop-transfer.part in let l = c.in-Some.link in
    let start = c.args.start in
    let some = links_between start (length old) in
    let linked = c.loop-transfer.invariant in
    let here = one_here start (length old) l _ (sym c.new_link.ensures ∙ ap option_to_list c.in-Some.is) (omega (arith, c.if-frame-start.true)) (omega (arith, c.if-frame-start-2.true, linked.count)) in
    let there = frame some (between_append start (length old)) s ts i _ c.loop-transfer-test.true old c.requires.linkable mid linked (counted_from start l) here in
    subst (λ os. stands_in os l.target ≡ false) (read mid (l.frame - start) c.index-part-frame.result there c.index-part-frame.is)
    (target some (between_append start (length old)) s ts i _ c.loop-transfer-test.true old c.requires.linkable mid linked (counted_from start l) here)

pub loop-transfer-preserved : goal.loop-transfer-preserved
loop-transfer-preserved c =
    let s = c.args.shards.now in let ts = c.args.transfers.now in let i = c.loop-transfer.transfer-index in let old = c.args.part.now in let mid = c.loop-transfer.part in
    let start = c.args.start in
    let some = links_between start (length old) in
    let grown = between_append start (length old) in
    let linked = c.loop-transfer.invariant in
    let less = c.loop-transfer-test.true in
    elim c.match-new_link.branch as (λ _. AreLinked (some (links_of s (take (i + 1) ts))) old c.match-new_link.part) [
      | in-Some+then-frame-start+then-frame-start-2+in_ok-derive w ↦
          let l = w.in-Some.link in
          let here = one_here start (length old) l _ (sym c.new_link.ensures ∙ ap option_to_list w.in-Some.is) (omega (arith, w.if-frame-start.true)) (omega (arith, w.if-frame-start-2.true, linked.count)) in
          subst (AreLinked (some (links_of s (take (i + 1) ts))) old) (sym w.part-is)
          (one_more some grown s ts i _ less old c.requires.linkable mid linked (counted_from start l) here w.index-part-frame.result w.derive.new.tree w.index-part-frame.is w.in_ok-derive.ensures.ok)
      | in-Some+else-frame-start w ↦
          let l = w.in-Some.link in
          let out : is_between start (length old) l ≡ false =
          elim w.else-frame-start.branch as (λ _. is_between start (length old) l ≡ false) [
            | else-frame-start-via-then-frame-start+else-frame-start-2 v ↦ between_outside start (length old) l (λ low high. absurd (omega (arith, low, high, v.if-frame-start.true, v.if-frame-start-2.false, linked.count)))
            | else-frame-start-via-else-frame-start v ↦ between_outside start (length old) l (λ low high. absurd (omega (arith, low, v.if-frame-start.false)))
          ] in
          subst (AreLinked (some (links_of s (take (i + 1) ts))) old) (sym w.part-is)
          (no_more some grown s ts i _ less old c.requires.linkable mid linked (none_here start (length old) l _ (sym c.new_link.ensures ∙ ap option_to_list w.in-Some.is) out))
      | in_default w ↦
          subst (AreLinked (some (links_of s (take (i + 1) ts))) old) (sym w.part-is)
          (no_more some grown s ts i _ less old c.requires.linkable mid linked (ap some (sym c.new_link.ensures ∙ ap option_to_list w.in_default.is)))
    ]
