use Rattle.std.proofs.Common.{◌<◌, length, sym, ap, ◌∙◌, subst, arith, inl, inr}
use Rattle.std.proofs.lemmas.{Bool.cases_eq, List.get_or_default}
use Rattle.std.specs.FinMap as maps
use Rattle.clause_index.specs.declared.link.Link.{Link}
use Rattle.clause_index.proofs.IndexLemmas.Found.{is_inside, other_hash}
use Rattle.clause_index.proofs.index.Index.find_waiting.Goals.{else-index-key-via-then-index-key+else-is_at, else-index-key-via-else-index-key}
use Rattle.clause_index.proofs.index.Index.find_waiting.Goals as goal

pub loop-slot-preserved : goal.loop-slot-preserved
loop-slot-preserved g c live s sound high low d there alike =
    let index = c.args.self.now in
    let at = c.loop-slot.slot in
    let is = g.T.Sought.is c.args.sought.now in
    let blank : Link = record { hash = 0; next = 0 } in
    elim (cases_eq s at) [
      | inl e ↦
          let read = c.index.ensures ∙ get_or_default index.links.items at _ blank (subst (λ n. n < length index.links.items) e (is_inside index live sound s d there)) in
          ap is e ∙ (elim c.else-index-key.branch [
            | else-index-key-via-then-index-key+else-is_at w ↦ sym w.is_at.ensures ∙ w.if-is_at.false
            | else-index-key-via-else-index-key w ↦ other_hash index live sound c.args.key at is (λ eq. w.if-index-key.false (ap (λ (l : Link). l.hash) read ∙ eq)) d (ap (maps.get live) (sym e) ∙ there) alike
          ])
      | inr ne ↦ c.loop-slot.invariant live s sound high (omega arith) d there alike
    ]
