use Rattle.reg_adapter.proofs.Transcripts.{messages_are_read, messages_have_texts, texts_are_messages, transcripts_are_unique}
use Rattle.reg_adapter.proofs.laws.messages_are_texts.Goals as goal

pub returns-clause-exist : goal.returns-clause-exist
returns-clause-exist c = messages_have_texts

pub returns-clause-read : goal.returns-clause-read
returns-clause-read c = messages_are_read

pub returns-clause-written : goal.returns-clause-written
returns-clause-written c = texts_are_messages

pub returns-clause-unique : goal.returns-clause-unique
returns-clause-unique c = transcripts_are_unique
