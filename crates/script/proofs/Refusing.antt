-- What is said of a fault that refuses a notice.
use Rattle.std.proofs.Common.{◌≡◌, ℕ, ◌++◌, codes, decimal, sym, ap, ◌∙◌}
use Rattle.market.specs.declared.fault.Fault.{Fault}
use Rattle.market.specs.Faults.{cause_number}
use Rattle.terms.specs.declared.refusal.Refusal.{Refusal}
use Rattle.terms.specs.declared.refusal.Refusal.TheVariants.{NotAdmitted}
use Rattle.terms.specs.Refusals.{number_of}
use Rattle.script.specs.Answers.{refusal_text}

pub refused_fault : (r : Refusal Fault) (n k : ℕ) (f : Fault) → n ≡ number_of r → r ≡ NotAdmitted f → k ≡ cause_number f.cause → codes "refused " ++ (decimal n ++ (codes ", component " ++ (decimal f.component ++ (codes " cause " ++ decimal k)))) ≡ refusal_text r
refused_fault r n k f number e h =
    ap (λ m. codes "refused " ++ (decimal m ++ (codes ", component " ++ (decimal f.component ++ (codes " cause " ++ decimal k))))) (number ∙ ap number_of e)
    ∙ (ap (λ m. codes "refused " ++ (decimal 5 ++ (codes ", component " ++ (decimal f.component ++ (codes " cause " ++ decimal m))))) h ∙ ap refusal_text (sym e))
