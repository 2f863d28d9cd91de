-- What refuses a file beside those of an input refuses the whole, one step after another.
use Rattle.hull_input.proofs.Common.{◌≡◌, inl, inr, List, ℕ, Option, Some, Ok, Err, refl, ap, ◌∙◌, ReportFile}
use Rattle.hull_input.proofs.Common.{PricesFile, MixtureFile, TopFault, IsFaultOf, Then, Reads, IsInput, IsWithinWork}
use Rattle.hull_input.proofs.Common.{IsReportFile, IsReported, IsPricesFile, IsPriced, IsMixtureFile, IsCertifiable}
use Rattle.hull_input.proofs.Common.{PlannedCase, Report, report_text}
use Rattle.uc_model.specs.Data.{PriceLists}
use Rattle.hull_input.proofs.ReadLaws.{got}

-- the bytes of a report that was read are its text
pub text_read : (read : Option (List ℕ)) (r : Report) → IsReportFile read (Ok r) → read ≡ Some (report_text r)
text_read read r (Ok bytes, is, (bounds, text)) = got ReportFile read bytes is ∙ ap Some text
text_read read r (Err f, is, e) = absurd cc

module _ (reads : Reads) (c : PlannedCase) (input : IsInput reads (Ok c)) where
  pub prices_refused : (f : TopFault) → IsFaultOf (IsPricesFile c.market.periods (reads PricesFile)) f →
      IsFaultOf (Then (IsInput reads) (IsPriced reads)) f
  prices_refused f (inl due) = inl (Ok c, input, (Err f, due, refl))
  prices_refused f (inr memory) = inr memory

  pub report_refused : (f : TopFault) → IsFaultOf (IsReportFile (reads ReportFile)) f →
      IsFaultOf (Then (IsInput reads) (IsReported reads)) f
  report_refused f (inl due) = inl (Ok c, input, (Err f, due, refl))
  report_refused f (inr memory) = inr memory

  pub work_refused : (r : Report) → IsReportFile (reads ReportFile) (Ok r) → (f : TopFault) →
      IsFaultOf (IsWithinWork r.budget c) f → IsFaultOf (Then (IsInput reads) (IsReported reads)) f
  work_refused r file f (inl due) = inl (Ok c, input, (Ok r, file, due))
  work_refused r file f (inr memory) = inr memory

  module _ (π : PriceLists) (file : IsPricesFile c.market.periods (reads PricesFile) (Ok π)) where
    pub mixture_refused : (f : TopFault) → IsFaultOf (IsMixtureFile c.market (reads MixtureFile)) f →
        IsFaultOf (Then (IsInput reads) (IsCertifiable reads)) f
    mixture_refused f (inl due) = inl (Ok c, input, (Ok c, (Ok π, file, refl), (Err f, due, refl)))
    mixture_refused f (inr memory) = inr memory

-- what refuses the input or its prices refuses the certificate
pub priced_refused : (reads : Reads) (f : TopFault) → IsFaultOf (Then (IsInput reads) (IsPriced reads)) f →
    IsFaultOf (Then (IsInput reads) (IsCertifiable reads)) f
priced_refused reads f (inl (Ok c, input, priced)) = inl (Ok c, input, (Err f, priced, refl))
priced_refused reads f (inl (Err g, input, e)) = inl (Err g, input, e)
priced_refused reads f (inr memory) = inr memory
