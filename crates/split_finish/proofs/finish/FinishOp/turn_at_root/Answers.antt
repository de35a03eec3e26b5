use Rattle.std.proofs.Common.{◌≡◌, ◌≤◌, ◌&&◌, ◌==◌, ℕ, true, false, not, inl, inr, Bool, nat_eq, nat_le, eq-eqb, Option, Some, refl, sym, ap, subst, ◌∙◌, arith}
use Rattle.std.specs.Option.{option_eq}
use Rattle.split_finish.proofs.Imports.{and_from, le-leb, eqb_tells, Meta, Page, stored_page, bound_aim, IsIncompleteSplit, root_shows, Node, nodes_of, node_there, is_incomplete, root_level}
use Rattle.split_finish.proofs.Imports.{splits_root_of, FinishAt, Start, Root}
use Rattle.split_finish.proofs.Counting.{less_again}
use Rattle.split_finish.proofs.Needs.{level_is}
use Rattle.split_finish.proofs.Standing.{live_level, incomplete_in, to_finish}
use Rattle.split_finish.proofs.Turning.{turn_moved, turn_popped, turn_retaken}
use Rattle.split_finish.proofs.finish.FinishOp.turn_at_root.Goals as goal
use Rattle.split_finish.proofs.finish.FinishOp.turn_at_root.Goals.{then-ne-via-then-ne, then-ne-via-else-ne+then-page-self}

pub returns-then-not-page-clause-turn : goal.returns-then-not-page-clause-turn
returns-then-not-page-clause-turn c = λ st there found.
    turn_popped st c.args.self.now c.pop.new.self c.pop.result c.args.page.now c.pop.ensures found c.if-not-page.true

differ : (a b : ℕ) → (a ≡ b → ⊥) → (a == b) ≡ false
differ a b ne = elim (eqb_tells a b) [ inl k ↦ absurd (ne k.1) | inr k ↦ k.0 ]

pub returns-then-meta-self-clause-turn : goal.returns-then-meta-self-clause-turn
returns-then-meta-self-clause-turn c = λ st there found.
    let op = c.args.self.now in
    turn_moved st op Root Start c.requires
    (less_again st.format.pages (nodes_of st.pages) op.below.items op.target
    (differ _ op.target.level (λ same. c.if-meta-self.true (sym (ap (λ (n : Node). n.level) (node_there st.pages 0 c.args.meta.now there)) ∙ same))) (omega arith))
    (λ h fits stands. tt)

not_same : (b : ℕ) {x : Option ℕ} → x ≡ Some b → not (option_eq nat_eq x (Some b)) ≡ true → ⊥
not_same b {x} is h =
    let one : option_eq nat_eq x (Some b) ≡ true = rw is (eq-eqb b b refl) in
    (let k : not true ≡ true = subst (λ (t : Bool). not t ≡ true) one h in cc)

pub returns-then-ne-clause-turn : goal.returns-then-ne-clause-turn
returns-then-ne-clause-turn c = λ st there found h fits.
    elim c.then-ne.branch [
      | then-ne-via-then-ne w ↦ absurd (
          let op = c.args.self.now in
          let u = to_finish st fits.start op.target.level (bound_aim op.target.separator) op.target.block c.args.page.now h fits.newest.place found c.if-not-page.false in
          let on : IsIncompleteSplit st fits.start c.args.meta.now.level u.separator c.args.page.now u.new =
          subst (λ (n : ℕ). IsIncompleteSplit st fits.start n u.separator c.args.page.now u.new) (sym c.if-meta-self.false) u.is in
          let root = root_shows st fits.start u.separator c.args.meta.now c.args.page.now u.new h there on in
          let here : c.args.page.now.block ≡ op.target.block = (stored_page st.format op.target.block st.pages c.args.page.now h.stored found).block_is in
          not_same op.target.block (root ∙ ap Some here) (sym c.ne.ensures ∙ w.if-ne.true))
      | then-ne-via-else-ne+then-page-self w ↦
          absurd (w.if-page-self.true (live_level st fits.start c.args.self.now.target.level _ true c.args.self.now.target.block c.args.page.now h fits.newest.place found
          (incomplete_in st c.args.self.now.target.block c.args.page.now h found c.if-not-page.false).1))
    ]

pub returns-then-self-ge31-clause-turn : goal.returns-then-self-ge31-clause-turn
returns-then-self-ge31-clause-turn c = λ st there found h fits.
    let op = c.args.self.now in
    let meta : Page = c.args.meta.now in
    let same : h.tree.meta ≡ meta = (let k : Some h.tree.meta ≡ Some meta = sym h.tree.meta_at ∙ there in cc) in
    let level : root_level st.pages ≡ op.target.level = level_is st meta there (subst (λ (p : Page). p.items ≡ Meta) same h.tree.names_root.kind) ∙ c.if-meta-self.false in
    subst (λ (a : FinishAt). (splits_root_of st op.target a && nat_le 31 (root_level st.pages)) ≡ true) (sym c.requires)
    (and_from (is_incomplete st op.target.block && (root_level st.pages == op.target.level)) (nat_le 31 (root_level st.pages))
    (and_from (is_incomplete st op.target.block) (root_level st.pages == op.target.level)
    (ap (λ (n : Node). n.split) (node_there st.pages op.target.block c.args.page.now found) ∙ c.if-not-page.false) (eq-eqb (root_level st.pages) op.target.level level))
    (le-leb 31 (root_level st.pages) (subst (λ (n : ℕ). 31 ≤ n) (sym level) c.if-self-ge31.true)))

pub returns-in_default-high-clause-turn : goal.returns-in_default-high-clause-turn
returns-in_default-high-clause-turn c = λ st there found h fits.
    absurd ((incomplete_in st c.args.self.now.target.block c.args.page.now h found c.if-not-page.false).0 c.in_default-high.is)

pub returns-clause-turn : goal.returns-clause-turn
returns-clause-turn c = λ st there found.
    turn_retaken st c.args.self.now c.retake.new.self c.in-Some.high Root c.args.page.now c.retake.ensures found c.if-not-page.false c.in-Some.is
    (sym c.are_same.ensures.value ∙ c.if-are_same.false) (omega arith)
    (rw (eq-eqb _ c.args.self.now.target.level (ap (λ (n : Node). n.level) (node_there st.pages 0 c.args.meta.now there) ∙ c.if-meta-self.false)) refl) (omega arith) (λ start target. tt)
