mod StepLemmas
mod StoryLemmas
