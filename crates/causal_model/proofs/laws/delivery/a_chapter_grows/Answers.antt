use Rattle.causal_model.proofs.Delivery.Chapters.{is_chapter-push}
use Rattle.causal_model.proofs.laws.delivery.a_chapter_grows.Goals as goal

pub returns : goal.returns
returns c = is_chapter-push
